-- The form owner of a node, given whether it is a form-associated custom element. With is_associated for that, it is the
-- definition of form_controls.
use Rattle.std.specs.Prelude.{ℕ, Bool, ◌||◌, if◌then◌else◌, codes, Option, None}
use Rattle.node_trees.specs.Trees.{Trees}
use Rattle.node_trees.specs.Spots.{attribute_at}
use Rattle.form_controls.specs.Kinds.{native_at}
use Rattle.form_controls.specs.Owners.{is_listed_native, owner_by}

abbrev pub listed_by : Trees → ℕ → Bool → Bool
listed_by forest n associated = is_listed_native (native_at forest n) || associated

abbrev pub owner_with : Trees → ℕ → Bool → Option ℕ
owner_with forest n associated = if listed_by forest n associated then owner_by forest n (attribute_at forest n (codes "form")) else None
