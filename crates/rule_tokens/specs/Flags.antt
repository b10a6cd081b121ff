-- Validity flags, as a token names them.
use Rattle.std.specs.Prelude.{ℕ, Bool, List, [], ◌∷◌, map, Option, Some, None, ◌==◌, if◌then◌else◌, codes}
use Rattle.std.specs.List.{list_all, list_any, slice_split}
use Rattle.std.specs.Str.{bytes_eq}
use Rattle.rule_tokens.specs.declared.token.Token.{Token}

-- their names, in their order
abbrev pub flag_names : List (List ℕ)
flag_names =
    codes "valueMissing"
    ∷ codes "typeMismatch"
    ∷ codes "patternMismatch"
    ∷ codes "tooLong"
    ∷ codes "tooShort"
    ∷ codes "rangeUnderflow"
    ∷ codes "rangeOverflow"
    ∷ codes "stepMismatch"
    ∷ codes "badInput"
    ∷ codes "customError"
    ∷ []

-- the text is one of these
abbrev pub is_one_of : List (List ℕ) → List ℕ → Bool
is_one_of names text = list_any (λ name. bytes_eq text name) names

-- the byte between names
abbrev pub is_comma : ℕ → Bool
is_comma b = b == 44

-- each flag is raised that is named
abbrev pub raised : List (List ℕ) → List Bool
raised named = map (λ flag. is_one_of named flag) flag_names

-- names joined by commas: each must be a flag's
abbrev pub flags_named : List (List ℕ) → Option (List Bool)
flags_named named = if list_all (is_one_of flag_names) named then Some (raised named) else None

-- F: bare none, or the names of flags joined by commas
abbrev pub flags : Token → Option (List Bool)
flags t =
    if t.quoted then None
    else (if bytes_eq t.text (codes "none") then Some (raised [])
    else flags_named (slice_split is_comma t.text))
