use Rattle.std.proofs.Common.{◌≡◌, drop}
use Rattle.ce_algorithms.specs.Steps.{for_each}
use Rattle.ce_algorithms.specs.Upgrade.{enqueue_attribute}
use Rattle.ce_page.specs.Ends.{work}
use Rattle.ce_page.specs.Numbers.{GrowsWithin}
use Rattle.session_state.proofs.upgrade.tell_each.Given as goal

abbrev pub invariant-loop-attribute : goal.invariant-loop-attribute
invariant-loop-attribute l = record {
  step : for_each (drop l.attribute-index l.attributes) (enqueue_attribute l.n) (work l.page l.fuel)
      ≡ for_each l.attributes (enqueue_attribute l.n) (work l.initial.page l.initial.fuel);
  within : GrowsWithin l.initial.page l.page l.initial.fuel l.fuel;
  forest : l.page.forest ≡ l.initial.page.forest;
}
