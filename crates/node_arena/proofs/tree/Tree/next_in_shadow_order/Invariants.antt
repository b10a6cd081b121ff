use Rattle.std.proofs.Common.{length}
use Rattle.node_trees.specs.Paths.{path}
use Rattle.tree_laws.proofs.OrderClimb.{Climbing}
use Rattle.node_arena.proofs.tree.Tree.next_in_shadow_order.Given as goal

abbrev pub invariant-loop-root : goal.invariant-loop-root
invariant-loop-root l = Climbing l.self l.fn.root l.fn.at l.up

abbrev pub decreases-loop-root : goal.decreases-loop-root
decreases-loop-root l = length (path l.up l.self)
