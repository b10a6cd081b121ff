use Rattle.std.proofs.Common.{length}
use Rattle.control_state.specs.Counts.{CountsCollapsed}
use Rattle.control_state.proofs.Texts.{Taken}
use Rattle.node_trees.specs.Orders.{tree_order_of}
use Rattle.control_state.proofs.Left.{left_from}
use Rattle.control_state.proofs.lengths.units_below.Given as goal

abbrev pub invariant-loop-next : goal.invariant-loop-next
invariant-loop-next l = Taken CountsCollapsed l.tree (tree_order_of l.tree l.fn.n) l.counter l.next

abbrev pub decreases-loop-next : goal.decreases-loop-next
decreases-loop-next l = length (left_from l.next (tree_order_of l.tree l.fn.n))
