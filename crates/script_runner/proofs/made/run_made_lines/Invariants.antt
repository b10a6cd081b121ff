use Rattle.std.proofs.Common.{Some, length}
use Rattle.script_runner.proofs.MadeLaws.{MadeOn}
use Rattle.script_runner.proofs.made.run_made_lines.Given as goal

abbrev pub invariant-loop-line : goal.invariant-loop-line
invariant-loop-line l = MadeOn l.fn.session l.session l.fn.maker l.maker (Some l.initial.figures) (Some l.figures)

abbrev pub decreases-loop-line : goal.decreases-loop-line
decreases-loop-line l = length l.maker
