use Rattle.std.proofs.Common.{◌≡◌, drop}
use Rattle.ce_algorithms.specs.Reset.{reset_control}
use Rattle.ce_algorithms.specs.Steps.{for_each}
use Rattle.ce_page.specs.Ends.{work}
use Rattle.ce_page.specs.Numbers.{StaysWithin}
use Rattle.page_calls.proofs.reset.reset_controls.Given as goal

abbrev pub invariant-loop-i : goal.invariant-loop-i
invariant-loop-i l = record {
  step : for_each (drop l.i l.list) reset_control (work l.page l.fuel) ≡ for_each l.list reset_control (work l.initial.page l.initial.fuel);
  within : StaysWithin l.initial.page l.page l.initial.fuel l.fuel;
  forest : l.page.forest ≡ l.initial.page.forest;
}
