use Rattle.std.proofs.Common.{length}
use Rattle.form_controls.specs.Options.{options_at}
use Rattle.control_state.specs.Choosing.{noted_all}
use Rattle.node_trees.specs.Spots.{children_at}
use Rattle.control_state.proofs.Left.{left_from}
use Rattle.control_state.proofs.Walks.{Walks}
use Rattle.control_state.proofs.choosing.found_in.Given as goal

abbrev pub invariant-loop-next : goal.invariant-loop-next
invariant-loop-next l = Walks l.tree (children_at l.tree l.fn.select)
    (λ v n. noted_all l.controls l.tree v (options_at l.tree n)) l.initial.found l.found l.next

abbrev pub decreases-loop-next : goal.decreases-loop-next
decreases-loop-next l = length (left_from l.next (children_at l.tree l.fn.select))
