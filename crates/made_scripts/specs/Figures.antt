-- Figures of bytes that are written line by line.
use Rattle.std.specs.Prelude.{ℕ, Bool, ◌==◌, nat_eq, List, codes, count_by}
use Rattle.std.specs.List.{slice_split, starts_with}

-- how many lines end in these bytes: their line feeds
unfoldable pub lines_in : List ℕ → ℕ
lines_in bytes = count_by (λ b. b == 10) bytes

-- a line that tells a call: it begins with these four bytes
abbrev pub is_call : List ℕ → Bool
is_call line = starts_with nat_eq line (codes "call")

-- how many of the lines tell a call; the bytes behind the last line feed are a line, too
unfoldable pub calls_in : List ℕ → ℕ
calls_in bytes = count_by is_call (slice_split (λ b. b == 10) bytes)
