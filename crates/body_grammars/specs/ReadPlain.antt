-- A plain text body, read.
use Rattle.std.specs.Prelude.{ℕ, List, [], ◌∷◌, Option, Some, None}
use Rattle.std.specs.List.{slice_split}
use Rattle.ce_base.specs.declared.entries.Entry.{Entry}
use Rattle.body_grammars.specs.Gives.{then_one, paired}
use Rattle.body_grammars.specs.Cuts.{is_byte, cut_at, behind, only_utf8}

-- a line that is cut at its first =
abbrev pub read_line_cut : Option (List ℕ × List ℕ) → Option Entry
read_line_cut None = None
read_line_cut (Some (name, value)) = paired (only_utf8 name) (only_utf8 value)

abbrev pub read_whole_line : Option (List ℕ × List ℕ) → Option Entry
read_whole_line None = None
read_whole_line (Some (line, [])) = read_line_cut (cut_at 61 line)
read_whole_line (Some (line, b ∷ behind)) = None

abbrev pub read_line : List ℕ → Option Entry
read_line part = read_whole_line (cut_at 13 part)

-- the lines; what follows the last LF is empty
abbrev pub read_lines : List (List ℕ) → Option (List Entry)
read_lines [] = None
read_lines ([] ∷ []) = Some []
read_lines ((b ∷ part) ∷ []) = None
read_lines (part ∷ next ∷ parts) = then_one (read_line part) (read_lines (next ∷ parts))

unfoldable pub plain_entries : List ℕ → Option (List Entry)
plain_entries bytes = read_lines (slice_split (is_byte 10) bytes)
