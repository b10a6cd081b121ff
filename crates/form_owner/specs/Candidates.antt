-- Which nodes a touch may change.
use Rattle.std.specs.Prelude.{◌≡◌, ◌==◌, ◌&&◌, ◌||◌, not, if◌then◌else◌, ℕ, Bool, true, false}
use Rattle.std.specs.Prelude.{List, codes, bytes_eq, Option, Some, None, All}
use Rattle.std.specs.Bool.{beq}
use Rattle.std.specs.List.{list_any}
use Rattle.std.specs.Option.{option_eq}
use Rattle.element_names.specs.declared.natives.Native.TheVariants.{Fieldset, Legend, Optgroup, OptionItem}
use Rattle.node_trees.specs.Trees.{Trees}
use Rattle.node_trees.specs.Nodes.{IsNode}
use Rattle.node_trees.specs.Orders.{order_of, tree_order_of}
use Rattle.node_trees.specs.Paths.{is_among}
use Rattle.node_trees.specs.Spots.{attribute_at, children_at}
use Rattle.form_controls.specs.Changes.{differs}
use Rattle.form_controls.specs.Disabled.{has_disabled}
use Rattle.form_controls.specs.Kinds.{is_a}
use Rattle.form_controls.specs.Owners.{Forms}
use Rattle.owner_reading.specs.Owners.{listed_by}
use Rattle.owner_rows.specs.OwnerRow.{OwnerRow, row_of}

-- only a listed element has an owner, and only it or an option may be disabled
abbrev pub is_concerned : Trees → List OwnerRow → ℕ → Bool
is_concerned forest rows n = listed_by forest n (row_of rows n).associated || is_a OptionItem forest n

-- nodes were put into a set: of those that it is about, each that a test is true of
pub record Considers (forest : Trees) (about test : ℕ → Bool) (old new : List ℕ) : Type 0 where
  pub nodes : All (IsNode forest) old → All (IsNode forest) new
  pub kept : (n : ℕ) → is_among n old ≡ true → is_among n new ≡ true
  pub found : (n : ℕ) → IsNode forest n → about n ≡ true → test n ≡ true → is_among n new ≡ true

-- the `form` attribute of n was seen to be this text, if there is one
abbrev pub is_named_by : (List ℕ → ℕ → Bool) → Option (List ℕ) → ℕ → Bool
is_named_by named None n = false
is_named_by named (Some id) n = named id n

-- or to be the `id` attribute of one of these nodes
abbrev pub is_named_among : Trees → (List ℕ → ℕ → Bool) → List ℕ → ℕ → Bool
is_named_among forest named ns n = list_any (λ j. is_named_by named (attribute_at forest j (codes "id")) n) ns

-- what is considered with one node: itself, and what names its ID
abbrev pub is_with : Trees → (List ℕ → ℕ → Bool) → ℕ → ℕ → Bool
is_with forest named n m = n == m || is_named_by named (attribute_at forest n (codes "id")) m

-- or with one of these nodes
abbrev pub is_with_among : Trees → (List ℕ → ℕ → Bool) → List ℕ → ℕ → Bool
is_with_among forest named ns m = list_any (λ j. is_with forest named j m) ns

-- n moved to a parent, or away from it

-- a legend, and the parent is a fieldset, which may have another first legend now: what is in its tree
abbrev pub is_of_legend : Trees → ℕ → ℕ → ℕ → Bool
is_of_legend forest n parent m = (is_a Legend forest n && is_a Fieldset forest parent) && is_among m (tree_order_of forest parent)

-- what moved, and what names an ID of it
abbrev pub is_of_move : Trees → (List ℕ → ℕ → Bool) → ℕ → ℕ → ℕ → Bool
is_of_move forest named n parent m =
    is_among m (order_of forest n) || (is_named_among forest named (order_of forest n) m || is_of_legend forest n parent m)

-- an attribute of n was set or taken away

-- an ID came or went: what names it
abbrev pub is_of_ids : (List ℕ → ℕ → Bool) → Option (List ℕ) → Option (List ℕ) → ℕ → Bool
is_of_ids named old new m = not (option_eq bytes_eq old new) && (is_named_by named old m || is_named_by named new m)

-- what is in the tree of a fieldset, and the children of an optgroup
abbrev pub is_of_group : Trees → ℕ → ℕ → Bool
is_of_group forest n m =
    if is_a Fieldset forest n then is_among m (tree_order_of forest n)
    else is_a Optgroup forest n && is_among m (children_at forest n)

abbrev pub is_of_change : Trees → List OwnerRow → (List ℕ → ℕ → Bool) → ℕ → ℕ → Bool
is_of_change forest rows named n m =
    n == m || (is_of_ids named (row_of rows n).seen.id (attribute_at forest n (codes "id")) m
    || (not (beq (row_of rows n).seen.disabled (has_disabled forest n)) && is_of_group forest n m))

-- what a touch changes is among these
abbrev pub Covers : List ℕ → Forms → Forms → Type 0
Covers candidates before now = (n : ℕ) → IsNode now.forest n → is_among n candidates ≡ false → differs before now n ≡ false
