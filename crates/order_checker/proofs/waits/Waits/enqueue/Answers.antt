use Rattle.std.proofs.Common.{ap, sym, subst, refl, ◌∙◌, ◌+◌, ◌∷◌, [], ◌++◌, true, arith, length}
use Rattle.std.proofs.lemmas.List.{length-append}
use Rattle.order_checker.specs.declared.waits.Slot.{Slot}
use Rattle.order_checker.specs.Slots.{AreKnown, AreCounted, waiting_from, entry_of_slot}
use Rattle.order_checker.proofs.SlotLemmas.{enqueued_known, waiting_push, waiting_same}
use Rattle.std.specs.Ordering.{nat_cmp}
use Rattle.std.specs.Map.{count_at}
use Rattle.std.specs.BTreeMap.{get}
use Rattle.order_checker.proofs.CountLemmas.{counted_push, told_le, waiting_le}
use Rattle.order_checker.proofs.waits.Waits.enqueue.Goals as goal

pub invariant_of-result : goal.invariant_of-result
invariant_of-result c =
    let s : Slot = record { element = c.args.element; what = c.args.what; queue = c.args.queue; previous = c.last_of-previous.result; waits = true } in (
      subst (λ ss. AreKnown ss c.insert.new.self) (sym c.in_ok-push.ensures.items)
          (enqueued_known c.self.inside.slots.items c.self.inside.last c.insert.new.self s c.element.inside.0 c.len.result c.element.view_is c.self.invariant.0
          c.last_of-previous.ensures refl
          c.in_ok-insert.ensures.updates.1 (omega (arith, ap length c.in_ok-push.ensures.items, length-append c.self.inside.slots.items (s ∷ [])))
          c.in_ok-insert.ensures.updates.2),
      subst (λ ws. AreCounted ws c.insert-2.new.self (c.self.inside.count + 1))
          (sym (ap (waiting_from 1) c.in_ok-push.ensures.items
          ∙ waiting_push 1 (length c.self.inside.slots.items + 1) c.self.inside.slots.items s refl (omega arith)))
          (counted_push (waiting_from 1 c.self.inside.slots.items) c.self.inside.told c.insert-2.new.self c.self.inside.count c.queue.inside.0
          (c.count_of-more.result + 1) (entry_of_slot (length c.self.inside.slots.items + 1) s) c.self.invariant.1
          c.queue.view_is (ap (λ n. n + 1) (c.count_of-more.ensures ∙ ap (count_at (get nat_cmp c.self.inside.told)) c.queue.view_is))
          c.in_ok-insert-2.ensures.updates.1 c.in_ok-insert-2.ensures.updates.2),
    )

pub returns : goal.returns
returns c =
    let s : Slot = record { element = c.args.element; what = c.args.what; queue = c.args.queue; previous = c.last_of-previous.result; waits = true } in
    waiting_same _ _ _ _
    (ap length c.in_ok-push.ensures.items ∙ length-append c.self.inside.slots.items (s ∷ []) ∙ ap (λ w. w.numbers + 1) c.self.view_is)
    (ap (waiting_from 1) c.in_ok-push.ensures.items
    ∙ waiting_push 1 (length c.self.inside.slots.items + 1) c.self.inside.slots.items s refl (omega arith)
    ∙ ap (λ w. w.entries ++ entry_of_slot (w.numbers + 1) s ∷ []) c.self.view_is)

pub overflow_add-more : goal.overflow_add-more
overflow_add-more c =
    let s : Slot = record { element = c.args.element; what = c.args.what; queue = c.args.queue; previous = c.last_of-previous.result; waits = true } in
    omega (
      arith,
      c.count_of-more.ensures ∙ ap (count_at (get nat_cmp c.self.inside.told)) c.queue.view_is,
      told_le c.args.queue (waiting_from 1 c.self.inside.slots.items) c.self.inside.told c.self.inside.count c.self.invariant.1,
      c.self.invariant.1.all,
      waiting_le 1 c.self.inside.slots.items,
      ap length c.in_ok-push.ensures.items,
      length-append c.self.inside.slots.items (s ∷ []),
    )

pub overflow_add-result : goal.overflow_add-result
overflow_add-result c =
    let s : Slot = record { element = c.args.element; what = c.args.what; queue = c.args.queue; previous = c.last_of-previous.result; waits = true } in
    omega (
      arith,
      c.self.invariant.1.all,
      waiting_le 1 c.self.inside.slots.items,
      ap length c.in_ok-push.ensures.items,
      length-append c.self.inside.slots.items (s ∷ []),
    )
