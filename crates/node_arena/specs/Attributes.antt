-- Names with values, as an element keeps them.
use Rattle.std.specs.Prelude.{◌≡◌, ℕ, ◌+◌, Bool, true, ◌&&◌, ⊤, if◌then◌else◌, List, [], ◌∷◌, bytes_eq, is_none}
use Rattle.node_trees.specs.Facts.{value_in}
use Rattle.node_arena.specs.declared.attributes.Kept.{Kept}
use Rattle.node_arena.specs.declared.attributes.Kept.TheVariants.{Few, Many}

-- where the name stands first; the length where it does not
abbrev pub name_place : List ℕ → List (List ℕ × List ℕ) → ℕ
name_place name [] = 0
name_place name (a ∷ rest) = if bytes_eq a.0 name then 0 else name_place name rest + 1

-- no name stands twice
abbrev pub is_once : List (List ℕ × List ℕ) → Bool
is_once [] = true
is_once (a ∷ rest) = is_none (value_in rest a.0) && is_once rest

-- the names with their values
abbrev pub pairs_of : Kept → List (List ℕ × List ℕ)
pairs_of (Few items) = items.items
pairs_of (Many map) = map.value

-- no name stands twice among a few
abbrev pub IsOnce : Kept → Type 0
IsOnce (Few items) = is_once items.items ≡ true
IsOnce (Many map) = ⊤
