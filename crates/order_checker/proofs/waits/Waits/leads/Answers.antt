use Rattle.std.proofs.Common.{rules, ap, ◌∙◌, ◌≡◌, true, false, arith}
use Rattle.std.specs.Prelude.{not}
use Rattle.order_law.specs.Reads.{entry_of}
use Rattle.order_law.specs.Clauses.{leads}
use Rattle.order_checker.specs.Slots.{waits_at}
use Rattle.order_checker.proofs.SlotLemmas.{within, leads_absent, leads_there}
use Rattle.order_checker.proofs.waits.Waits.leads.Goals as goal

pub returns-then-not-waits_at : goal.returns-then-not-waits_at
returns-then-not-waits_at c =
    let absent : waits_at c.self.inside.slots.items c.args.number ≡ false = search (rules, c.waits_at.ensures, c.if-not-waits_at.true) in
    leads_absent c.self.inside.slots.items c.args.number absent ∙ ap (λ w. leads (entry_of c.args.number w.entries) w.entries) c.self.view_is

pub index-requires : goal.index-requires
index-requires c =
    let waits : waits_at c.self.inside.slots.items c.args.number ≡ true = search (rules, c.waits_at.ensures, c.if-not-waits_at.false) in
    omega (arith, (within c.self.inside.slots.items c.args.number waits).1)

pub returns : goal.returns
returns c =
    let waits : waits_at c.self.inside.slots.items c.args.number ≡ true = search (rules, c.waits_at.ensures, c.if-not-waits_at.false) in
    ap not c.waits_at-2.ensures
    ∙ leads_there c.self.inside.slots.items c.args.number c.index.result.now c.self.invariant.0.links waits c.index.ensures
    ∙ ap (λ w. leads (entry_of c.args.number w.entries) w.entries) c.self.view_is
