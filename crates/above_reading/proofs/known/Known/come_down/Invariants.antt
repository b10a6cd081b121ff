use Rattle.std.proofs.Common.{◌≡◌}
use Rattle.node_trees.specs.Nodes.{IsNode}
use Rattle.above_reading.specs.Above.{above_at}
use Rattle.above_reading.specs.Ways.{AreRight, IsUpward, first_or}
use Rattle.above_reading.proofs.known.Known.come_down.Given as goal

abbrev pub invariant-loop-child : goal.invariant-loop-child
invariant-loop-child l = record {
  node : IsNode l.tree l.at;
  known : AreRight l.tree l.self;
  found : l.found ≡ above_at l.tree l.at;
  way : IsUpward l.tree l.way.items l.at;
  first : first_or l.way.items l.at ≡ first_or l.fn.way.items l.fn.top;
}

abbrev pub decreases-loop-child : goal.decreases-loop-child
decreases-loop-child l = goal.left-loop-child l
