-- Validity flags as text.
use Rattle.std.specs.Prelude.{ℕ, Bool, true, false, List, [], ◌∷◌, ◌++◌, codes}
use Rattle.rule_tokens.specs.Flags.{flag_names}

-- the names of the flags that are raised, in their order
abbrev pub raised_names : List (List ℕ) → List Bool → List (List ℕ)
raised_names [] flags = []
raised_names (name ∷ names) [] = []
raised_names (name ∷ names) (true ∷ flags) = name ∷ raised_names names flags
raised_names (name ∷ names) (false ∷ flags) = raised_names names flags

-- names with a text before each
abbrev pub names_after : List ℕ → List (List ℕ) → List ℕ
names_after between [] = []
names_after between (name ∷ names) = between ++ name ++ names_after between names

-- names with a text between them, or the text for no name
abbrev pub names_joined : List ℕ → List ℕ → List (List ℕ) → List ℕ
names_joined between none [] = none
names_joined between none (name ∷ names) = name ++ names_after between names

-- the canonical text of validity flags: names with commas between them, or `none`
abbrev pub flags_text : List Bool → List ℕ
flags_text flags = names_joined (codes ",") (codes "none") (raised_names flag_names flags)

-- what stands for one flag's name: nothing unless it is raised, and the text between names first where a
-- name is before it
abbrev pub put_name : List ℕ → Bool → Bool → List ℕ → List ℕ
put_name between named false name = []
put_name between false true name = name
put_name between true true name = between ++ name
