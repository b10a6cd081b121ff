use Rattle.std.proofs.Common.{◌≡◌, length}
use Rattle.node_trees.specs.Paths.{path}
use Rattle.node_trees.specs.Nodes.{IsNode}
use Rattle.tree_laws.proofs.WayUp.{rootward}
use Rattle.node_arena.proofs.tree.Tree.root.Given as goal

abbrev pub invariant-loop-parent : goal.invariant-loop-parent
invariant-loop-parent l = IsNode l.self l.at × (rootward l.self (path l.fn.n l.self) ≡ rootward l.self (path l.at l.self))

abbrev pub decreases-loop-parent : goal.decreases-loop-parent
decreases-loop-parent l = length (path l.at l.self)
