-- The lines of a body, and those that begin with the delimiter of its parts (RFC 7578, section 4.1; RFC 2046, section 5.1.1).
use Rattle.std.specs.Prelude.{ℕ, Bool, nat_eq, List, ◌++◌, codes, filter}
use Rattle.std.specs.List.{slice_split, starts_with}
use Rattle.form_controls.specs.Texts.{is_newline}

-- what stands between carriage returns and line feeds
abbrev pub lines : List ℕ → List (List ℕ)
lines text = slice_split is_newline text

-- two hyphens and the boundary
abbrev pub delimiter : List ℕ → List ℕ
delimiter boundary = codes "--" ++ boundary

abbrev pub is_delimiting : List ℕ → List ℕ → Bool
is_delimiting boundary line = starts_with nat_eq line (delimiter boundary)

abbrev pub delimiting_lines : List ℕ → List ℕ → List (List ℕ)
delimiting_lines boundary body = filter (is_delimiting boundary) (lines body)
