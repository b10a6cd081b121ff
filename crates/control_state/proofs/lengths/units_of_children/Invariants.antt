use Rattle.std.proofs.Common.{length}
use Rattle.control_state.specs.Counts.{CountsNormalized}
use Rattle.control_state.proofs.Texts.{Taken}
use Rattle.node_trees.specs.Spots.{children_at}
use Rattle.control_state.proofs.Left.{left_from}
use Rattle.control_state.proofs.lengths.units_of_children.Given as goal

abbrev pub invariant-loop-next : goal.invariant-loop-next
invariant-loop-next l = Taken CountsNormalized l.tree (children_at l.tree l.fn.n) l.counter l.next

abbrev pub decreases-loop-next : goal.decreases-loop-next
decreases-loop-next l = length (left_from l.next (children_at l.tree l.fn.n))
