-- Entries, and that what they hold is text.
use Rattle.std.specs.Prelude.{ℕ, List, IsUtf8}
use Rattle.ce_base.specs.declared.entries.Entry.{Entry}

-- an entry: a name and its value (HTML Standard, section "Constructing the entry list", "create an entry")
abbrev pub entry : List ℕ → List ℕ → Entry
entry name value = record { name = name; value = value }

-- the name and the value of an entry are UTF-8
abbrev pub HasTexts : Entry → Type 0
HasTexts e = IsUtf8 e.name × IsUtf8 e.value
