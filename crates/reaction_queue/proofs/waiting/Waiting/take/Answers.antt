use Rattle.std.proofs.Common.{arith, map}
use Rattle.std.proofs.lemmas.List.{length-map}
use Rattle.reaction_queue.specs.Chains.{links_of, waiting_in}
use Rattle.reaction_queue.proofs.TrimmedLemmas.{list_at-past, trimmed-empty}
use Rattle.reaction_queue.proofs.WaitingLemmas.{has_first, none_waits, taken, takes}
use Rattle.reaction_queue.proofs.waiting.Waiting.take.Goals as goal

pub returns-then-i-len-clause-first : goal.returns-then-i-len-clause-first
returns-then-i-len-clause-first c =
    (let lists = map waiting_in (links_of c.self.inside.cells c.self.inside.ends.items) in
    rw (← c.self.view_is, ← c.place-i.ensures)
    (list_at-past c.place-i.result lists
    (omega (arith, c.self.invariant.size, length-map (links_of c.self.inside.cells c.self.inside.ends.items) waiting_in))))

pub returns-then-i-len-clause-empty : goal.returns-then-i-len-clause-empty
returns-then-i-len-clause-empty c =
    (let lists = map waiting_in (links_of c.self.inside.cells c.self.inside.ends.items) in
    rw (← c.self.view_is, ← c.place-i.ensures) (trimmed-empty c.place-i.result lists
    (list_at-past c.place-i.result lists
    (omega (arith, c.self.invariant.size, length-map (links_of c.self.inside.cells c.self.inside.ends.items) waiting_in)))))

pub returns-in_default-clause-first : goal.returns-in_default-clause-first
returns-in_default-clause-first c =
    rw (← c.self.view_is, ← c.place-i.ensures)
    (none_waits c.self.inside.cells c.self.inside.ends.items c.place-i.result c.index.result.now c.self.invariant
    (omega arith) c.index.ensures c.in_default.is)

pub returns-in_default-clause-empty : goal.returns-in_default-clause-empty
returns-in_default-clause-empty c =
    rw (← c.self.view_is, ← c.place-i.ensures) (trimmed-empty c.place-i.result (map waiting_in (links_of c.self.inside.cells c.self.inside.ends.items))
    (none_waits c.self.inside.cells c.self.inside.ends.items c.place-i.result c.index.result.now c.self.invariant
    (omega arith) c.index.ensures c.in_default.is))

pub take_first-first-requires : goal.take_first-first-requires
take_first-first-requires c =
    has_first c.self.inside.cells c.self.inside.ends.items c.place-i.result c.index.result.now c.in-Some.ends c.self.invariant
    (omega arith) c.index.ensures c.in-Some.is

pub invariant_of-self : goal.invariant_of-self
invariant_of-self c =
    (takes c.self.inside.cells c.take_first-first.new.cells c.self.inside.ends.items c.place-i.result c.take_first-first.result.1
    c.take_first-first.result.0 (omega arith)
    (taken c.self.inside.cells c.take_first-first.new.cells c.self.inside.ends.items c.place-i.result c.index.result.now c.in-Some.ends
    c.take_first-first.result.1 c.take_first-first.result.0 c.self.invariant (omega arith) c.index.ensures c.in-Some.is
    c.take_first-first.ensures.first c.take_first-first.ensures.rest c.take_first-first.ensures.others c.take_first-first.ensures.count)).are

pub returns-clause-first : goal.returns-clause-first
returns-clause-first c =
    rw (← c.self.view_is, ← c.place-i.ensures)
    (takes c.self.inside.cells c.take_first-first.new.cells c.self.inside.ends.items c.place-i.result c.take_first-first.result.1
    c.take_first-first.result.0 (omega arith)
    (taken c.self.inside.cells c.take_first-first.new.cells c.self.inside.ends.items c.place-i.result c.index.result.now c.in-Some.ends
    c.take_first-first.result.1 c.take_first-first.result.0 c.self.invariant (omega arith) c.index.ensures c.in-Some.is
    c.take_first-first.ensures.first c.take_first-first.ensures.rest c.take_first-first.ensures.others c.take_first-first.ensures.count)).first

pub returns-clause-others : goal.returns-clause-others
returns-clause-others c =
    rw (← c.self.view_is, ← c.place-i.ensures)
    (takes c.self.inside.cells c.take_first-first.new.cells c.self.inside.ends.items c.place-i.result c.take_first-first.result.1
    c.take_first-first.result.0 (omega arith)
    (taken c.self.inside.cells c.take_first-first.new.cells c.self.inside.ends.items c.place-i.result c.index.result.now c.in-Some.ends
    c.take_first-first.result.1 c.take_first-first.result.0 c.self.invariant (omega arith) c.index.ensures c.in-Some.is
    c.take_first-first.ensures.first c.take_first-first.ensures.rest c.take_first-first.ensures.others c.take_first-first.ensures.count)).others
