use Rattle.control_state.proofs.Counted.{CountsCollapsed-more}
use Rattle.control_state.proofs.counts.CollapsedUnits.take.Goals as goal

pub loop-b-preserved : goal.loop-b-preserved
loop-b-preserved c =
    λ before h. CountsCollapsed-more _ _ before _ _
    (c.loop-b.invariant before h) c.loop-b-test.true c.read.ensures.units c.read.ensures.begun c.read.ensures.apart
