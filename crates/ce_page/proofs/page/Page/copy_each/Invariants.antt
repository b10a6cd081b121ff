use Rattle.std.proofs.Common.{◌≡◌, drop}
use Rattle.node_trees.specs.Kinds.{IsElement}
use Rattle.ce_algorithms.specs.Clone.{copy_attribute}
use Rattle.ce_algorithms.specs.Steps.{for_each}
use Rattle.ce_page.specs.Ends.{work}
use Rattle.ce_page.specs.Numbers.{StaysWithin}
use Rattle.ce_page.specs.Copies.{OnlyChanges}
use Rattle.ce_page.proofs.page.Page.copy_each.Given as goal

abbrev pub invariant-loop-attribute : goal.invariant-loop-attribute
invariant-loop-attribute l = record {
  step : for_each (drop l.attribute-index l.attributes) (copy_attribute l.n) (work l.self l.fuel)
      ≡ for_each l.attributes (copy_attribute l.n) (work l.initial.self l.initial.fuel);
  within : StaysWithin l.initial.self l.self l.initial.fuel l.fuel;
  changes : OnlyChanges l.n l.initial.self.forest l.self.forest;
  copy : IsElement l.self.forest l.n;
}
