use Rattle.std.proofs.Common.{length}
use Rattle.node_trees.specs.Nodes.{IsTidy}
use Rattle.node_trees.specs.Orders.{tree_order_of}
use Rattle.tree_laws.proofs.Onward.{onward}
use Rattle.tree_laws.proofs.Listing.{Listing}
use Rattle.node_arena.proofs.tree.Tree.tree_order.Given as goal

abbrev pub invariant-loop-out : goal.invariant-loop-out
invariant-loop-out l = record { tidy : IsTidy l.self; so_far : Listing l.self l.fn.root l.at l.out }

abbrev pub decreases-loop-out : goal.decreases-loop-out
decreases-loop-out l = length (onward l.at (tree_order_of l.self l.fn.root))
