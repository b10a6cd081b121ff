use Rattle.std.proofs.Common.{◌≡◌, ℕ, drop}
use Rattle.ce_algorithms.specs.Steps.{for_each}
use Rattle.ce_page.specs.Ends.{work}
use Rattle.ce_page.specs.Numbers.{StaysWithin}
use Rattle.ce_page.specs.Copies.{OnlyMoves}
use Rattle.ce_page.specs.Loose.{SamePlaces, move_one}
use Rattle.ce_page.specs.Settled.{KeepsSettled}
use Rattle.ce_page.proofs.page.Page.move_nodes.Given as goal

abbrev pub invariant-loop-i : goal.invariant-loop-i
invariant-loop-i l = record {
  step : (fuel : ℕ) → for_each (drop l.i l.walk) (move_one l.document) (work l.self fuel) ≡ for_each l.walk (move_one l.document) (work l.initial.self fuel);
  within : StaysWithin l.initial.self l.self 0 0;
  places : SamePlaces l.initial.self.forest l.self.forest;
  moves : OnlyMoves l.walk l.initial.self.forest l.self.forest;
  settled : KeepsSettled l.initial.self l.self;
}
