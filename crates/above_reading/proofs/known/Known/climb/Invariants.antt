use Rattle.std.proofs.Common.{◌≡◌, length}
use Rattle.node_trees.specs.Nodes.{IsNode}
use Rattle.form_controls.specs.Owners.{ancestors}
use Rattle.above_reading.specs.Ways.{IsUpward, first_or}
use Rattle.above_reading.proofs.known.Known.climb.Given as goal

abbrev pub invariant-loop-above : goal.invariant-loop-above
invariant-loop-above l = record {
  node : IsNode l.tree l.at;
  first : first_or l.way.items l.at ≡ l.fn.n;
  way : IsUpward l.tree l.way.items l.at;
}

abbrev pub decreases-loop-above : goal.decreases-loop-above
decreases-loop-above l = length (ancestors l.tree l.at)
