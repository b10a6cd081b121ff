use Rattle.std.proofs.Common.{◌≡◌, length}
use Rattle.node_trees.specs.Paths.{path, connected}
use Rattle.node_trees.specs.Nodes.{IsNode}
use Rattle.node_arena.proofs.tree.Tree.is_connected.Given as goal

abbrev pub invariant-loop-next : goal.invariant-loop-next
invariant-loop-next l = IsNode l.self l.at × (connected l.self l.fn.n ≡ connected l.self l.at)

abbrev pub decreases-loop-next : goal.decreases-loop-next
decreases-loop-next l = length (path l.at l.self)
