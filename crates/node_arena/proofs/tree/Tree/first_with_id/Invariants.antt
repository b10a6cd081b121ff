use Rattle.std.proofs.Common.{◌-◌, ◌<◌}
use Rattle.node_arena.proofs.tree.Tree.first_with_id.Given as goal

abbrev pub invariant-loop-steps : goal.invariant-loop-steps
invariant-loop-steps l = 0 < l.steps

abbrev pub decreases-loop-steps : goal.decreases-loop-steps
decreases-loop-steps l = l.count - l.steps
