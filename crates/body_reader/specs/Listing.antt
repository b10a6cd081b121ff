-- What a call writes of a body.
use Rattle.std.specs.Prelude.{ℕ, List, [], ◌∷◌, ◌++◌, codes, flat_map}
use Rattle.ce_base.specs.declared.entries.Entry.{Entry}
use Rattle.form_controls.specs.Texts.{line_feed}
use Rattle.ce_lines.specs.Quoted.{in_quotes}

-- the name and the value of an entry, in quotes as in a transcript
abbrev pub entry_line : Entry → List ℕ
entry_line e = in_quotes e.name ++ codes " " ++ in_quotes e.value ++ line_feed ∷ []

-- a line for each entry
abbrev pub listing : List Entry → List ℕ
listing list = flat_map entry_line list

-- the one line for bytes that are no body
abbrev pub refused_line : List ℕ
refused_line = codes "refused" ++ line_feed ∷ []
