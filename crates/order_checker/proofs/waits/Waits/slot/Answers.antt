use Rattle.std.proofs.Common.{rules, ap, sym, ◌∙◌, ◌≡◌, true, false, arith}
use Rattle.order_law.specs.Reads.{entry_of}
use Rattle.order_checker.specs.Slots.{waits_at}
use Rattle.order_checker.proofs.SlotLemmas.{within, entry_absent, entry_there}
use Rattle.order_checker.proofs.waits.Waits.slot.Goals as goal

pub returns-then-not-waits_at : goal.returns-then-not-waits_at
returns-then-not-waits_at c =
    let absent : waits_at c.self.inside.slots.items c.args.number ≡ false = search (rules, c.waits_at.ensures, c.if-not-waits_at.true) in
    sym (ap (λ w. entry_of c.args.number w.entries) c.self.view_is) ∙ entry_absent c.self.inside.slots.items c.args.number absent

pub index-requires : goal.index-requires
index-requires c =
    let waits : waits_at c.self.inside.slots.items c.args.number ≡ true = search (rules, c.waits_at.ensures, c.if-not-waits_at.false) in
    omega (arith, (within c.self.inside.slots.items c.args.number waits).1)

pub returns : goal.returns
returns c =
    let waits : waits_at c.self.inside.slots.items c.args.number ≡ true = search (rules, c.waits_at.ensures, c.if-not-waits_at.false) in
    sym (ap (λ w. entry_of c.args.number w.entries) c.self.view_is)
    ∙ entry_there c.self.inside.slots.items c.args.number c.index.result.now waits c.index.ensures
