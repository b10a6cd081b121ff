-- What is read of one node, beside its row.
use Rattle.std.specs.Prelude.{ℕ, Bool, nat_eq, List, map, filter}
use Rattle.std.specs.Bool.{beq}
use Rattle.std.specs.Option.{option_eq}
use Rattle.node_trees.specs.Trees.{Trees, is_number}
use Rattle.node_trees.specs.Paths.{root_at}
use Rattle.node_trees.specs.Orders.{tree_order_of}
use Rattle.form_controls.specs.declared.change.Change.{Change}
use Rattle.form_controls.specs.Changes.{where_new, is_change}
use Rattle.owner_reading.specs.Owners.{owner_with}
use Rattle.above_reading.specs.Disabled.{disabled_with}
use Rattle.owner_rows.specs.OwnerRow.{OwnerRow, row_of}

-- what differs between a node's row and the trees

abbrev pub change_read : Trees → List OwnerRow → ℕ → Change
change_read forest rows n = record {
  node = n;
  owner = where_new (option_eq nat_eq) (row_of rows n).owner (owner_with forest n (row_of rows n).associated);
  disabled = where_new beq (row_of rows n).disabled (disabled_with forest n (row_of rows n).associated);
}

abbrev pub changes_read : Trees → List OwnerRow → List ℕ → List Change
changes_read forest rows ns = map (change_read forest rows) (filter (λ n. is_change (change_read forest rows n)) ns)

-- the controls of a form, by the owners in the rows

abbrev pub is_owned_in : List OwnerRow → ℕ → ℕ → Bool
is_owned_in rows form n = is_number (row_of rows n).owner form

abbrev pub owned_in : List OwnerRow → Trees → ℕ → List ℕ
owned_in rows forest form = filter (is_owned_in rows form) (tree_order_of forest (root_at forest form))
