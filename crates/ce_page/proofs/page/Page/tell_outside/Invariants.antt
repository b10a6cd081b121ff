use Rattle.std.proofs.Common.{◌≡◌, drop}
use Rattle.node_trees.specs.Orders.{order_of}
use Rattle.ce_algorithms.specs.FormChanges.{tell_others}
use Rattle.ce_page.specs.Ends.{work}
use Rattle.ce_page.specs.Numbers.{StaysWithin, OnlyEnqueues}
use Rattle.ce_page.proofs.page.Page.tell_outside.Given as goal

abbrev pub invariant-loop-i : goal.invariant-loop-i
invariant-loop-i l = record {
  step : tell_others (drop l.i l.changes) (order_of l.initial.self.forest l.node) (work l.self l.fuel)
      ≡ tell_others l.changes (order_of l.initial.self.forest l.node) (work l.initial.self l.initial.fuel);
  within : StaysWithin l.initial.self l.self l.initial.fuel l.fuel;
  rest : OnlyEnqueues l.initial.self l.self;
}
