-- The canonical text of validity flags, name by name.
use Rattle.std.proofs.Common.{◌≡◌, ◌<◌, ◌+◌, ℕ, Bool, true, false, ◌||◌, List, [], ◌∷◌, ◌++◌, length, get_or, drop, refl, add-one, drop-cons, append_assoc}
use Rattle.rule_tokens.specs.FlagsText.{names_after, names_joined, put_name, raised_names}

-- the text of the names that are left, where a name is put already and where none is
abbrev pub text_from : List ℕ → List ℕ → Bool → List (List ℕ) → List ℕ
text_from between none true names = names_after between names
text_from between none false names = names_joined between none names

-- the names, and this one before them where its flag is raised
abbrev with_name : Bool → List ℕ → List (List ℕ) → List (List ℕ)
with_name true name names = name ∷ names
with_name false name names = names

names_first : (name : List ℕ) (names : List (List ℕ)) (f : Bool) (fs : List Bool)
    → raised_names (name ∷ names) (f ∷ fs) ≡ with_name f name (raised_names names fs)
names_first name names true fs = refl
names_first name names false fs = refl

text_first : (between none : List ℕ) (named f : Bool) (name : List ℕ) (names : List (List ℕ))
    → text_from between none named (with_name f name names) ≡ put_name between named f name ++ text_from between none (named || f) names
text_first between none true true name names = rw append_assoc refl
text_first between none true false name names = refl
text_first between none false true name names = refl
text_first between none false false name names = refl

-- one more flag
pub text_step : (between none : List ℕ) (named : Bool) (i : ℕ) (names : List (List ℕ)) (fs : List Bool) → i < length names → i < length fs →
    text_from between none named (raised_names (drop i names) (drop i fs))
    ≡ put_name between named (get_or fs i false) (get_or names i []) ++ text_from between none (named || get_or fs i false)
    (raised_names (drop (i + 1) names) (drop (i + 1) fs))
text_step between none named i names fs in_names in_fs =
    rw (add-one, drop-cons names i [], drop-cons fs i false, names_first) (text_first between none named (get_or fs i false) (get_or names i []) _)
