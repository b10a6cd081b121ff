-- Controls that go from list to list.
use Rattle.std.specs.Prelude.{◌≡◌, ◌<◌, ◌+◌, ◌-◌, ℕ, Bool, true, not, ◌&&◌, ◌==◌, List, filter, find, length, slice_get, is_some, Option, Some, None}
use Rattle.std.specs.List.{list_any}
use Rattle.node_trees.specs.Trees.{Trees}
use Rattle.node_trees.specs.Nodes.{IsNode, size}
use Rattle.node_trees.specs.Orders.{tree_order_of}
use Rattle.node_trees.specs.Paths.{is_among, root_at}
use Rattle.node_trees.specs.Spots.{after}
use Rattle.tree_laws.specs.Numbers.{insert_number}
use Rattle.form_controls.specs.declared.change.Change.{Change}
use Rattle.owner_rows.specs.OwnerRow.{OwnerRow, row_in, row_of}
use Rattle.form_owner.specs.Groups.{all_after}
use Rattle.form_owner.specs.Reading.{is_owned_in}
use Rattle.form_owner.specs.Writing.{unlisted}

-- a change gives m a new form owner, or takes its owner from it
abbrev pub is_moving : ℕ → Change → Bool
is_moving m c = is_some c.owner && c.node == m

abbrev pub is_moved_by : List Change → ℕ → Bool
is_moved_by cs m = list_any (is_moving m) cs

-- no change moves m
abbrev pub stays : List Change → ℕ → Bool
stays cs m = not (is_moved_by cs m)

-- m is in the list of a form that owns it
abbrev pub is_listed_in : List OwnerRow → ℕ → ℕ → Bool
is_listed_in rows form m = is_owned_in rows form m && is_among m (row_of rows form).controls

-- the first of a form's list behind n, in the tree order of the form's tree
abbrev pub listed_after : Trees → List OwnerRow → ℕ → ℕ → Option ℕ
listed_after forest rows form n = find (is_listed_in rows form) (all_after n (tree_order_of forest (root_at forest form)))

-- the last of a form's list
abbrev pub last_listed : List OwnerRow → ℕ → Option ℕ
last_listed rows form = slice_get (row_of rows form).controls (length (row_of rows form).controls - 1)

-- of a list, none that passes comes behind n
pub record HasNoneBehind (p : ℕ → Bool) (order : List ℕ) (n : ℕ) : Type 0 where
  pub among : is_among n order ≡ true
  pub none : find p (all_after n order) ≡ None

-- what comes behind a number, where there is one
abbrev pub after_or_none : List ℕ → Option ℕ → Option ℕ
after_or_none order None = None
after_or_none order (Some n) = after n order

-- a form's row, with n put into its list before another or at the end
abbrev pub with_control : Option ℕ → ℕ → OwnerRow → OwnerRow
with_control before n row = record row { controls = insert_number before n row.controls }

-- what a change tells of its node stands in the node's row, and the node stands in the tree of its new form owner
pub record IsTold (forest : Trees) (rows : List OwnerRow) (c : Change) : Type 0 where
  pub owner : (o : Option ℕ) → c.owner ≡ Some o → (row_of rows c.node).owner ≡ o
  pub form : (g : ℕ) → c.owner ≡ Some (Some g) → IsNode forest g
  pub inside : (g : ℕ) → c.owner ≡ Some (Some g) → is_among c.node (tree_order_of forest (root_at forest g)) ≡ true

-- the form owns m, and no change that is left moves m
abbrev pub is_settled : List OwnerRow → List Change → ℕ → ℕ → Bool
is_settled rows cs form m = is_owned_in rows form m && stays cs m

-- each list is of those that its form owns, without those that a change that is left moves
pub record AreEntered (forest : Trees) (cs : List Change) (old new : List OwnerRow) : Type 0 where
  pub same : (i : ℕ) → unlisted (row_in new i) ≡ unlisted (row_in old i)
  pub lists : (i : ℕ) → i < size forest → (row_in new i).controls ≡ filter (is_settled old cs (i + 1)) (tree_order_of forest (root_at forest (i + 1)))
