-- Radio button groups, a member at a time.
use Rattle.std.specs.Prelude.{ℕ, Bool, ◌&&◌, ◌==◌, if◌then◌else◌, nat_eq, bytes_eq, List, [], ◌∷◌, filter, length, Option, Some, None}
use Rattle.std.specs.Option.{option_eq}
use Rattle.element_names.specs.declared.input_kinds.InputKind.TheVariants.{Radio}
use Rattle.node_trees.specs.Trees.{Trees}
use Rattle.node_trees.specs.Paths.{root_at}
use Rattle.node_trees.specs.Orders.{tree_order_of}
use Rattle.form_controls.specs.Kinds.{has_kind, name_of}
use Rattle.form_controls.specs.Texts.{is_empty}
use Rattle.form_controls.specs.Owners.{Forms}
use Rattle.form_controls.specs.Checkedness.{group_of}
use Rattle.owner_rows.specs.OwnerRow.{OwnerRow, row_of}
use Rattle.form_owner.specs.OwnerRows.{OwnerRows}

-- the group of a radio button, by the owners in the rows

abbrev pub is_grouped_in : List OwnerRow → Trees → ℕ → ℕ → Bool
is_grouped_in rows forest radio n =
    has_kind Radio forest n
    && option_eq nat_eq (row_of rows n).owner (row_of rows radio).owner
    && bytes_eq (name_of forest n) (name_of forest radio)

abbrev pub group_in : List OwnerRow → Trees → ℕ → List ℕ
group_in rows forest radio =
    if is_empty (name_of forest radio) then radio ∷ []
    else filter (is_grouped_in rows forest radio) (tree_order_of forest (root_at forest radio))

-- all that follows n in a list
abbrev pub all_after : ℕ → List ℕ → List ℕ
all_after n [] = []
all_after n (m ∷ ms) = if m == n then ms else all_after n ms

abbrev pub all_behind : List ℕ → Option ℕ → List ℕ
all_behind group None = group
all_behind group (Some n) = all_after n group

-- the members of a radio button's group that come behind this one; behind none all do
abbrev pub members_behind : Forms → ℕ → Option ℕ → List ℕ
members_behind f radio behind = all_behind (group_of f radio) behind

-- how many members come behind this one, by the rows of a table that stands for the trees
abbrev pub left_behind : OwnerRows → Trees → ℕ → Option ℕ → ℕ
left_behind table now radio behind = length (all_behind (group_in table.rows now radio) behind)
