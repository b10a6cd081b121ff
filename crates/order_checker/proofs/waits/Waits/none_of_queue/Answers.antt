use Rattle.std.proofs.Common.{ap, sym, ◌∙◌}
use Rattle.std.specs.Prelude.{◌==◌}
use Rattle.std.specs.Ordering.{nat_cmp}
use Rattle.std.specs.Map.{count_at}
use Rattle.std.specs.BTreeMap.{get}
use Rattle.order_law.specs.Reads.{none_of_queue}
use Rattle.order_checker.specs.Slots.{waiting_from}
use Rattle.order_checker.proofs.CountLemmas.{none_by_count}
use Rattle.order_checker.proofs.waits.Waits.none_of_queue.Goals as goal

pub returns : goal.returns
returns c =
    ap (λ n. n == 0) (c.count_of.ensures ∙ ap (count_at (get nat_cmp c.self.inside.told)) c.queue.view_is ∙ c.self.invariant.1.queues c.args.queue)
    ∙ sym (none_by_count c.args.queue (waiting_from 1 c.self.inside.slots.items)) ∙ ap (λ w. none_of_queue c.args.queue w.entries) c.self.view_is
