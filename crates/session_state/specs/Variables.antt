-- The variables: how they are found, and the numbers that they hold.
use Rattle.std.specs.Prelude.{◌≡◌, ℕ, ◌<◌, max, List, [], ◌∷◌, Option, String, bytes_eq}
use Rattle.std.specs.List.{position}
use Rattle.std.specs.BTreeMap.{BTreeMap, get_by_text}

-- the place of a variable
abbrev pub place : List ℕ → List (List ℕ × ℕ) → Option ℕ
place name variables = position (λ (b : List ℕ × ℕ). bytes_eq b.0 name) variables

-- the map finds each variable by its name, and nothing by another one
abbrev pub Finds : {Y : Type 0} → BTreeMap (String Y) ℕ → List (List ℕ × ℕ) → Type 0
Finds places variables = (name : List ℕ) → get_by_text places name ≡ place name variables

-- the greatest of them, and 0 where there is none
abbrev pub highest : List (List ℕ × ℕ) → ℕ
highest [] = 0
highest (b ∷ bs) = max b.1 (highest bs)

-- no node has the number 0
abbrev pub ArePositive : List (List ℕ × ℕ) → Type 0
ArePositive [] = Unit {0}
ArePositive (b ∷ bs) = (0 < b.1) × ArePositive bs
