use Rattle.std.proofs.Common.{length, []}
use Rattle.std.specs.String.{string_bytes}
use Rattle.control_state.proofs.Walks.{Walks}
use Rattle.control_state.proofs.Texts.{joined}
use Rattle.node_trees.specs.Spots.{children_at}
use Rattle.control_state.proofs.Left.{left_from}
use Rattle.control_state.proofs.values.child_text.Given as goal

abbrev pub invariant-loop-next : goal.invariant-loop-next
invariant-loop-next l = Walks l.tree (children_at l.tree l.fn.n) (joined l.tree) [] (string_bytes l.text) l.next

abbrev pub decreases-loop-next : goal.decreases-loop-next
decreases-loop-next l = length (left_from l.next (children_at l.tree l.fn.n))
