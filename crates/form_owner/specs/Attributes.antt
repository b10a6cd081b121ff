-- Whose `form` attribute a text is.
use Rattle.std.specs.Prelude.{ℕ, Bool, false, List, codes, bytes_eq, Option, Some, None}
use Rattle.node_trees.specs.Trees.{Trees}
use Rattle.node_trees.specs.Spots.{attribute_at}

abbrev pub is_text : List ℕ → Option (List ℕ) → Bool
is_text id None = false
is_text id (Some text) = bytes_eq text id

-- the `form` attribute of n is this text
abbrev pub is_naming : Trees → List ℕ → ℕ → Bool
is_naming forest id n = is_text id (attribute_at forest n (codes "form"))
