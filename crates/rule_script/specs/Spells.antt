-- What a line spells.
use Rattle.std.specs.Prelude.{◌≡◌, ℕ, false, List, Option, Some, None}
use Rattle.rule_tokens.specs.declared.token.Token.{Token}
use Rattle.rule_tokens.specs.Cases.{ReadsTo}
use Rattle.rule_lines.specs.Acts.{Said, Blank}
use Rattle.rule_lines.specs.Spells.{Spelled}
use Rattle.rule_reader.specs.declared.pieces.Form.{Form}
use Rattle.rule_reader.specs.AsRead.{form_as_read}
use Rattle.rule_script.specs.Place.{said_of, is_barred}

-- the tokens are a form of the table, the form may stand where it stands, and says this
pub record SpellsForm (ts : List Token) (x : Said) : Type 0 where
  pub form : Form
  pub spelled : Spelled ts (form_as_read form)
  pub free : is_barred form ≡ false
  pub says : said_of form ≡ Some x

-- a blank line spells Blank
abbrev pub SpellsBy : Option (List Token) → Said → Type 0
SpellsBy None x = x ≡ Blank
SpellsBy (Some ts) x = SpellsForm ts x

-- a line of at most so many bytes spells what its tokens spell
pub record Spells (limit : ℕ) (bytes : List ℕ) (x : Said) : Type 0 where
  pub tokens : Option (List Token)
  pub laid_out : ReadsTo limit bytes tokens
  pub spelled : SpellsBy tokens x
