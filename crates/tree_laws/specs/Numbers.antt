-- Edits of a list of numbers.
use Rattle.std.specs.Prelude.{ℕ, ◌==◌, if◌then◌else◌, List, [], ◌∷◌, Option}
use Rattle.node_trees.specs.Trees.{is_number}

-- the first n taken out
abbrev pub remove_number : ℕ → List ℕ → List ℕ
remove_number n [] = []
remove_number n (m ∷ ms) = if m == n then ms else m ∷ remove_number n ms

-- n put before b, or at the end
abbrev pub insert_number : Option ℕ → ℕ → List ℕ → List ℕ
insert_number b n [] = n ∷ []
insert_number b n (m ∷ ms) = if is_number b m then n ∷ m ∷ ms else m ∷ insert_number b n ms
