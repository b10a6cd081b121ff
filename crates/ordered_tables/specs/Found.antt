-- How what has a name is found by its place, and its place by its name.
use Rattle.std.specs.Prelude.{◌≡◌, ℕ, ◌+◌, Bool, true, ◌&&◌, nat_le, if◌then◌else◌, List, [], ◌∷◌, Option, Some, None, String, bytes_eq, is_none}
use Rattle.std.specs.BTreeMap.{BTreeMap, get_by_text}

module _ {X : Type 0} (name : X → List ℕ) where
  -- the place of what has this name, where it is there
  abbrev pub place_of : List (ℕ × X) → List ℕ → Option ℕ
  place_of [] s = None
  place_of (e ∷ es) s = if bytes_eq (name e.1) s then Some e.0 else place_of es s

  -- no name stands twice
  abbrev pub is_once : List (ℕ × X) → Bool
  is_once [] = true
  is_once (e ∷ es) = is_none (place_of es (name e.1)) && is_once es

-- the places rise, from the first on, and stay below the next
abbrev pub is_rising : {X : Type 0} → ℕ → List (ℕ × X) → ℕ → Bool
is_rising first [] next = nat_le first next
is_rising first (e ∷ es) next = nat_le first e.0 && is_rising (e.0 + 1) es next

-- the second map finds the place of each name, and nothing by another one; each name stands once, below the next place
pub record Finds {X Y : Type 0} (name : X → List ℕ) (items : BTreeMap ℕ X) (places : BTreeMap (String Y) ℕ) (next : ℕ) : Type 0 where
  pub found : (s : List ℕ) → get_by_text places s ≡ place_of name items.entries s
  pub once : is_once name items.entries ≡ true
  pub rising : is_rising 0 items.entries next ≡ true
