-- Elements by their ids.
use Rattle.std.specs.Prelude.{ℕ, Bool, false, ◌&&◌, List, [], Option, Some, None, bytes_eq, codes}
use Rattle.std.specs.List.{find}
use Rattle.node_trees.specs.Facts.{Facts, is_element, value_in}
use Rattle.node_trees.specs.Trees.{Trees}
use Rattle.node_trees.specs.Spots.{facts_at}
use Rattle.node_trees.specs.Orders.{tree_order_of}

-- an empty text is no id
abbrev pub is_id : List ℕ → Option (List ℕ) → Bool
is_id [] value = false
is_id id None = false
is_id id (Some value) = bytes_eq value id

-- the node is an element whose ID this is (DOM Standard, section "Interface Element", "ID")
abbrev pub has_id : List ℕ → Facts → Bool
has_id id x = is_element x.kind && is_id id (value_in x.attributes (codes "id"))

-- of n and what is below it in its tree, the first element in tree order whose ID this is (DOM Standard, section
-- "Mixin NonElementParentNode", `getElementById`)
abbrev pub first_with_id : Trees → ℕ → List ℕ → Option ℕ
first_with_id forest n id = find (λ m. has_id id (facts_at forest m)) (tree_order_of forest n)
