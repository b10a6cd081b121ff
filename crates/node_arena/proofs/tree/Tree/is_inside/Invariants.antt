use Rattle.std.proofs.Common.{◌≡◌, length}
use Rattle.node_trees.specs.Paths.{path, is_among}
use Rattle.node_trees.specs.Nodes.{IsNode}
use Rattle.node_arena.proofs.tree.Tree.is_inside.Given as goal

abbrev pub invariant-loop-node : goal.invariant-loop-node
invariant-loop-node l = IsNode l.self l.at × (is_among l.node (path l.fn.from l.self) ≡ is_among l.node (path l.at l.self))

abbrev pub decreases-loop-node : goal.decreases-loop-node
decreases-loop-node l = length (path l.at l.self)
