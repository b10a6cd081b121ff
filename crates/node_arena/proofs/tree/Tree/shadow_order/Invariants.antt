use Rattle.node_trees.specs.Nodes.{IsTidy}
use Rattle.tree_laws.proofs.OrderListing.{Listing, left_from}
use Rattle.node_arena.proofs.tree.Tree.shadow_order.Given as goal

abbrev pub invariant-loop-out : goal.invariant-loop-out
invariant-loop-out l = record { tidy : IsTidy l.self; listing : Listing l.self l.fn.n l.at l.out }

abbrev pub decreases-loop-out : goal.decreases-loop-out
decreases-loop-out l = left_from l.self l.fn.n l.at
