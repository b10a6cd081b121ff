use Rattle.std.proofs.Common.{length, true}
use Rattle.form_controls.specs.Texts.{is_empty}
use Rattle.control_state.proofs.Walks.{Walks}
use Rattle.control_state.proofs.Texts.{still}
use Rattle.node_trees.specs.Spots.{children_at}
use Rattle.control_state.proofs.Left.{left_from}
use Rattle.control_state.proofs.lengths.is_empty_of_children.Given as goal

abbrev pub invariant-loop-next : goal.invariant-loop-next
invariant-loop-next l = Walks l.tree (children_at l.tree l.fn.n) (still l.tree is_empty) true true l.next

abbrev pub decreases-loop-next : goal.decreases-loop-next
decreases-loop-next l = length (left_from l.next (children_at l.tree l.fn.n))
