-- What a change of the trees changes of form owners and disabled states.
use Rattle.std.specs.Prelude.{ℕ, Bool, ◌||◌, if◌then◌else◌, List, map, filter, is_some, nat_eq, Option, Some, None}
use Rattle.std.specs.Bool.{beq}
use Rattle.std.specs.List.{range_with_len}
use Rattle.std.specs.Option.{option_eq}
use Rattle.node_trees.specs.Trees.{Trees}
use Rattle.node_trees.specs.Nodes.{size}
use Rattle.form_controls.specs.declared.change.Change.{Change}
use Rattle.form_controls.specs.Owners.{Forms, form_owner}
use Rattle.form_controls.specs.Disabled.{is_disabled}

-- a value that differs from the old one
abbrev pub where_new : {A : Type 0} → (A → A → Bool) → A → A → Option A
where_new same old new = if same old new then None else Some new

-- from before to now, what differs for one node (HTML Standard, section "Custom element reactions")
abbrev pub form_change : Forms → Forms → ℕ → Change
form_change old new n = record {
  node = n;
  owner = where_new (option_eq nat_eq) (form_owner old n) (form_owner new n);
  disabled = where_new beq (is_disabled old n) (is_disabled new n);
}

-- it says something
abbrev pub is_change : Change → Bool
is_change c = is_some c.owner || is_some c.disabled

-- the form owner or the disabled state of n differs
abbrev pub differs : Forms → Forms → ℕ → Bool
differs old new n = is_change (form_change old new n)

-- the numbers of all nodes
abbrev pub numbers : Trees → List ℕ
numbers forest = range_with_len 1 (size forest)

-- all that differs, in the order of the nodes' numbers
abbrev pub form_changes : Forms → Forms → List Change
form_changes old new = map (form_change old new) (filter (differs old new) (numbers new.forest))
