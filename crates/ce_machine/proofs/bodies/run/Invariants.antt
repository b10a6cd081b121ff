use Rattle.ce_machine.specs.Bodies.{GoesOn, running_turn}
use Rattle.ce_machine.proofs.bodies.run.Given as goal

abbrev pub invariant-loop-now : goal.invariant-loop-now
invariant-loop-now l = GoesOn l.initial.stack l.stack l.initial.state l.state running_turn

abbrev pub decreases-loop-now : goal.decreases-loop-now
decreases-loop-now l = l.state.fuel
