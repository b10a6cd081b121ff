use Rattle.std.proofs.Common.{length}
use Rattle.node_trees.specs.Nodes.{IsTidy}
use Rattle.node_trees.specs.Paths.{path}
use Rattle.tree_laws.proofs.Climbing.{Climbing}
use Rattle.node_arena.proofs.tree.Tree.next_in_tree.Given as goal

abbrev pub invariant-loop-root : goal.invariant-loop-root
invariant-loop-root l = record { tidy : IsTidy l.self; climbing : Climbing l.self l.fn.root l.fn.at l.up }

abbrev pub decreases-loop-root : goal.decreases-loop-root
decreases-loop-root l = length (path l.up l.self)
