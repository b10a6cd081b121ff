use Rattle.std.proofs.Common.{refl}
use Rattle.made_scripts.specs.Figures.{lines_in, calls_in}
use Rattle.made_scripts.proofs.figure_laws.figures_are_worked.Goals as goal

pub returns : goal.returns
unfolding lines_in calls_in
returns c = (refl, refl)
