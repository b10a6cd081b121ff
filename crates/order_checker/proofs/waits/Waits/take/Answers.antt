use Rattle.std.proofs.Common.{ap, sym, subst, ◌∙◌, ◌-◌, arith}
use Rattle.std.proofs.lemmas.List.{length-set}
use Rattle.std.specs.Prelude.{is_some}
use Rattle.std.specs.Ordering.{nat_cmp}
use Rattle.std.specs.Map.{count_at}
use Rattle.std.specs.BTreeMap.{get}
use Rattle.order_law.specs.Reads.{entry_of, without}
use Rattle.order_law.specs.Clauses.{leads}
use Rattle.order_checker.specs.Slots.{waiting_from, AreCounted}
use Rattle.order_checker.proofs.SlotLemmas.{within, waits_some, taken, entry_there, waiting_same}
use Rattle.order_checker.proofs.CountLemmas.{counted_take, told_one}
use Rattle.order_checker.proofs.waits.Waits.take.Goals as goal

pub overflow_sub-number : goal.overflow_sub-number
overflow_sub-number c =
    let waits = waits_some c.self.inside.slots.items c.args.number ∙ ap (λ w. is_some (entry_of c.args.number w.entries)) c.self.view_is ∙ c.requires.waits in
    (within c.self.inside.slots.items c.args.number waits).0

pub index_mut-slot-requires : goal.index_mut-slot-requires
index_mut-slot-requires c =
    let waits = waits_some c.self.inside.slots.items c.args.number ∙ ap (λ w. is_some (entry_of c.args.number w.entries)) c.self.view_is ∙ c.requires.waits in
    omega (arith, (within c.self.inside.slots.items c.args.number waits).1)

pub overflow_sub-less : goal.overflow_sub-less
overflow_sub-less c =
    let waits = waits_some c.self.inside.slots.items c.args.number ∙ ap (λ w. is_some (entry_of c.args.number w.entries)) c.self.view_is ∙ c.requires.waits in
    let entry = entry_there c.self.inside.slots.items c.args.number c.index_mut-slot.result.now waits c.index_mut-slot.ensures.value in
    omega (
      arith,
      c.count_of-less.ensures ∙ ap (count_at (get nat_cmp c.self.inside.told)) c.queue.view_is,
      told_one (waiting_from 1 c.self.inside.slots.items) c.self.inside.told c.self.inside.count c.args.number _ c.self.invariant.1 entry,
    )

pub invariant_of-result : goal.invariant_of-result
invariant_of-result c =
    let waits = waits_some c.self.inside.slots.items c.args.number ∙ ap (λ w. is_some (entry_of c.args.number w.entries)) c.self.view_is ∙ c.requires.waits in
    let entry = entry_there c.self.inside.slots.items c.args.number c.index_mut-slot.result.now waits c.index_mut-slot.ensures.value in
    let now = taken c.self.inside.slots.items c.self.inside.last c.args.number c.index_mut-slot.result.now c.self.invariant.0 waits
    c.index_mut-slot.ensures.value (ap (λ w. leads (entry_of c.args.number w.entries) w.entries) c.self.view_is ∙ c.requires.leads) in (
      now.0,
      subst (λ ws. AreCounted ws c.insert.new.self (c.self.inside.count - 1)) (sym now.1)
          (counted_take (waiting_from 1 c.self.inside.slots.items) c.self.inside.told c.insert.new.self c.self.inside.count c.args.number c.queue.inside.0
          (c.count_of-less.result - 1) _ c.self.invariant.1 entry c.queue.view_is
          (omega (
            arith,
            c.count_of-less.ensures ∙ ap (count_at (get nat_cmp c.self.inside.told)) c.queue.view_is,
            told_one (waiting_from 1 c.self.inside.slots.items) c.self.inside.told c.self.inside.count c.args.number _ c.self.invariant.1 entry,
          ))
          c.in_ok-insert.ensures.updates.1 c.in_ok-insert.ensures.updates.2),
    )

pub returns : goal.returns
returns c =
    let waits = waits_some c.self.inside.slots.items c.args.number ∙ ap (λ w. is_some (entry_of c.args.number w.entries)) c.self.view_is ∙ c.requires.waits in
    let now = taken c.self.inside.slots.items c.self.inside.last c.args.number c.index_mut-slot.result.now c.self.invariant.0 waits
    c.index_mut-slot.ensures.value (ap (λ w. leads (entry_of c.args.number w.entries) w.entries) c.self.view_is ∙ c.requires.leads) in
    waiting_same _ _ _ _ (length-set c.self.inside.slots.items (c.args.number - 1) _ ∙ ap (λ w. w.numbers) c.self.view_is)
    (now.1 ∙ ap (λ w. without c.args.number w.entries) c.self.view_is)
