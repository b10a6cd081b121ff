use Rattle.std.proofs.Common.{arith, rules, ◌∙◌, ◌≡◌, ap, map, set, Some}
use Rattle.reaction_queue.specs.Chains.{links_of, waiting_in}
use Rattle.reaction_queue.specs.Trimmed.{trimmed}
use Rattle.reaction_queue.proofs.SideLemmas.{all_read, as_read, with_room}
use Rattle.reaction_queue.proofs.WaitingLemmas.{put_chains, put_view, view_of, widened}
use Rattle.reaction_queue.proofs.waiting.Waiting.append.Goals as goal

pub invariant_of-self : goal.invariant_of-self
invariant_of-self c =
    (widened c.self.inside.cells c.self.inside.ends.items c.grow.new.ends.items c.grow.ensures.empty c.self.invariant).are

pub returns-in-Err-clause-err : goal.returns-in-Err-clause-err
returns-in-Err-clause-err c =
    let same : view_of c.self.inside.cells c.grow.new.ends.items ≡ c.args.self.now =
    (widened c.self.inside.cells c.self.inside.ends.items c.grow.new.ends.items c.grow.ensures.empty c.self.invariant).same ∙ c.self.view_is in
    search (rules, same)

pub invariant_of-self-in_err-ends : goal.invariant_of-self-in_err-ends
invariant_of-self-in_err-ends c =
    as_read c.put_last.new.cells c.grow.new.ends.items (links_of c.self.inside.cells c.grow.new.ends.items)
    (with_room c.self.inside.cells c.put_last.new.cells c.grow.new.ends.items (links_of c.self.inside.cells c.grow.new.ends.items) c.in_err-ends.ensures.err
    (widened c.self.inside.cells c.self.inside.ends.items c.grow.new.ends.items c.grow.ensures.empty c.self.invariant).are)

pub returns-in_err-ends-clause-err : goal.returns-in_err-ends-clause-err
returns-in_err-ends-clause-err c =
    let wider = widened c.self.inside.cells c.self.inside.ends.items c.grow.new.ends.items c.grow.ensures.empty c.self.invariant in
    let same : view_of c.put_last.new.cells c.grow.new.ends.items ≡ c.args.self.now =
    ap (λ links. trimmed (map waiting_in links)) (all_read c.put_last.new.cells c.grow.new.ends.items (links_of c.self.inside.cells c.grow.new.ends.items)
    (with_room c.self.inside.cells c.put_last.new.cells c.grow.new.ends.items
    (links_of c.self.inside.cells c.grow.new.ends.items) c.in_err-ends.ensures.err wider.are))
    ∙ wider.same ∙ c.self.view_is in
    search (rules, same)

pub invariant_of-self-2 : goal.invariant_of-self-2
invariant_of-self-2 c =
    as_read c.put_last.new.cells (set c.grow.new.ends.items c.place-i.result (Some c.in_ok-ends.ends)) _
    (put_chains c.self.inside.cells c.put_last.new.cells c.grow.new.ends.items c.place-i.result c.index.result.now c.in_ok-ends.ends
    (c.args.number, c.args.r)
    (widened c.self.inside.cells c.self.inside.ends.items c.grow.new.ends.items c.grow.ensures.empty c.self.invariant).are
    (omega (arith, c.in_default.ensures.within)) c.index.ensures
    c.in_ok-ends.ensures.chain c.in_ok-ends.ensures.others c.in_ok-ends.ensures.count)

pub returns-clause-ok : goal.returns-clause-ok
returns-clause-ok c =
    (let wider = widened c.self.inside.cells c.self.inside.ends.items c.grow.new.ends.items c.grow.ensures.empty c.self.invariant in
    rw (← (wider.same ∙ c.self.view_is), ← c.place-i.ensures)
    (put_view c.self.inside.cells c.put_last.new.cells c.grow.new.ends.items c.place-i.result c.in_ok-ends.ends (c.args.number, c.args.r)
    (omega (arith, c.in_default.ensures.within))
    (put_chains c.self.inside.cells c.put_last.new.cells c.grow.new.ends.items c.place-i.result c.index.result.now c.in_ok-ends.ends
    (c.args.number, c.args.r) wider.are (omega (arith, c.in_default.ensures.within)) c.index.ensures
    c.in_ok-ends.ensures.chain c.in_ok-ends.ensures.others c.in_ok-ends.ensures.count)))
