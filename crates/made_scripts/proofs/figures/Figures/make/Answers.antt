-- Before the first byte no line is counted.
use Rattle.std.proofs.Common.{refl}
use Rattle.made_scripts.specs.Figures.{lines_in, calls_in}
use Rattle.made_scripts.specs.Wanted.{wanted_after}
use Rattle.made_scripts.proofs.figures.Figures.make.Goals as goal

pub invariant_of-result : goal.invariant_of-result
unfolding lines_in calls_in wanted_after
invariant_of-result c = rw c.none.ensures (refl, refl, refl, refl)
