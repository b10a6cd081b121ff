use Rattle.std.proofs.Common.{length, ◌++◌, ◌∷◌, []}
use Rattle.std.specs.Prelude.{if◌then◌else◌}
use Rattle.element_names.specs.declared.natives.Native.TheVariants.{OptionItem}
use Rattle.form_controls.specs.Kinds.{is_a}
use Rattle.node_trees.specs.Spots.{children_at}
use Rattle.control_state.proofs.Left.{left_from}
use Rattle.control_state.proofs.Walks.{Walks}
use Rattle.control_state.proofs.options.list_children.Given as goal

abbrev pub invariant-loop-next : goal.invariant-loop-next
invariant-loop-next l = Walks l.tree (children_at l.tree l.fn.group)
    (λ ns n. if is_a OptionItem l.tree n then ns ++ n ∷ [] else ns) l.initial.list l.list l.next

abbrev pub decreases-loop-next : goal.decreases-loop-next
decreases-loop-next l = length (left_from l.next (children_at l.tree l.fn.group))
