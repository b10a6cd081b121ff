use Rattle.std.proofs.Common.{◌≡◌, drop}
use Rattle.ce_algorithms.specs.Steps.{for_each}
use Rattle.ce_algorithms.specs.Mutation.{removed}
use Rattle.ce_page.specs.Ends.{work}
use Rattle.ce_page.specs.Numbers.{StaysWithin, OnlyEnqueues}
use Rattle.ce_page.proofs.page.Page.tell_removed.Given as goal

abbrev pub invariant-loop-i : goal.invariant-loop-i
invariant-loop-i l = record {
  step : for_each (drop l.i l.walk) (removed l.changes l.was) (work l.self l.fuel)
      ≡ for_each l.walk (removed l.changes l.was) (work l.initial.self l.initial.fuel);
  within : StaysWithin l.initial.self l.self l.initial.fuel l.fuel;
  rest : OnlyEnqueues l.initial.self l.self;
}
