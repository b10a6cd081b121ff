-- The canonical line of what a line says.
use Rattle.std.specs.Prelude.{◌≡◌, ℕ, ◌≤◌, List, [], length, Option, Some, Ok}
use Rattle.rule_tokens.specs.declared.token.Token.{Token}
use Rattle.rule_tokens.specs.Spaced.{as_line}
use Rattle.rule_lines.specs.Acts.{Said, Blank}
use Rattle.rule_lines.specs.Canon.{canon_tokens}
use Rattle.rule_reader.specs.declared.pieces.Form.{Form}
use Rattle.rule_reader.specs.AsRead.{form_as_read}
use Rattle.rule_script.specs.Place.{said_of}
use Rattle.rule_script.specs.Reading.{reading}
use Rattle.rule_script.specs.Spells.{Spells, SpellsBy}

-- its operands have their forms and stand where they may: some tokens spell it
abbrev pub CanBeSpelled : Said → Type 0
CanBeSpelled x = (tokens : Option (List Token)) × SpellsBy tokens x

-- the canonical tokens of the form, with one space between them
abbrev pub canonical_line : Form → List ℕ
canonical_line f = as_line (canon_tokens (form_as_read f))

-- the text is the canonical line of what says this; a blank line's is empty
abbrev pub IsCanonical : Said → List ℕ → Type 0
IsCanonical Blank text = text ≡ []
IsCanonical x text = (f : Form) → said_of f ≡ Some x → text ≡ canonical_line f

-- a limit that the text does not pass lets it spell this
abbrev pub SpellsWithin : Said → List ℕ → Type 0
SpellsWithin x text = (limit : ℕ) → length text ≤ limit → Spells limit text x

-- and it is read as this under such a limit
abbrev pub ReadsAgain : Said → List ℕ → Type 0
ReadsAgain x text = (limit : ℕ) → length text ≤ limit → reading limit text ≡ Ok x
