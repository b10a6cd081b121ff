-- A urlencoded body, read.
use Rattle.std.specs.Prelude.{ℕ, List, [], ◌∷◌, Option, Some, None}
use Rattle.std.specs.List.{slice_split}
use Rattle.ce_base.specs.declared.entries.Entry.{Entry}
use Rattle.body_grammars.specs.Gives.{then_one, paired}
use Rattle.body_grammars.specs.Cuts.{is_byte, cut_at}
use Rattle.body_grammars.specs.Escapes.{read_text}

-- a pair that is cut at its first =
abbrev pub read_cut : Option (List ℕ × List ℕ) → Option Entry
read_cut None = None
read_cut (Some (name, value)) = paired (read_text name) (read_text value)

-- a name, = and a value
abbrev pub read_pair : List ℕ → Option Entry
read_pair part = read_cut (cut_at 61 part)

-- each of the pairs
abbrev pub read_pairs : List (List ℕ) → Option (List Entry)
read_pairs [] = Some []
read_pairs (part ∷ parts) = then_one (read_pair part) (read_pairs parts)

-- the pairs between & and &
unfoldable pub read_parts : List ℕ → Option (List Entry)
read_parts bytes = read_pairs (slice_split (is_byte 38) bytes)

-- a body: nothing, or pairs
abbrev pub urlencoded_entries : List ℕ → Option (List Entry)
urlencoded_entries [] = Some []
urlencoded_entries (b ∷ bytes) = read_parts (b ∷ bytes)
