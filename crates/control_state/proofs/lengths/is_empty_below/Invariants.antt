use Rattle.std.proofs.Common.{length, true}
use Rattle.control_state.proofs.Walks.{Walks}
use Rattle.control_state.proofs.Texts.{is_blank, still}
use Rattle.node_trees.specs.Orders.{tree_order_of}
use Rattle.control_state.proofs.Left.{left_from}
use Rattle.control_state.proofs.lengths.is_empty_below.Given as goal

abbrev pub invariant-loop-next : goal.invariant-loop-next
invariant-loop-next l = Walks l.tree (tree_order_of l.tree l.fn.n) (still l.tree is_blank) true true l.next

abbrev pub decreases-loop-next : goal.decreases-loop-next
decreases-loop-next l = length (left_from l.next (tree_order_of l.tree l.fn.n))
