use Rattle.std.proofs.Common.{◌≡◌, length}
use Rattle.node_trees.specs.Spots.{first_of}
use Rattle.node_trees.specs.Paths.{path}
use Rattle.node_trees.specs.Nodes.{IsNode}
use Rattle.node_arena.proofs.tree.Tree.shadow_including_root.Given as goal

abbrev pub invariant-loop-next : goal.invariant-loop-next
invariant-loop-next l = IsNode l.self l.at × (first_of (path l.fn.n l.self) ≡ first_of (path l.at l.self))

abbrev pub decreases-loop-next : goal.decreases-loop-next
decreases-loop-next l = length (path l.at l.self)
