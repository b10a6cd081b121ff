-- The case of each fault of a line. The first case that holds is the one that a line is refused for.
use Rattle.std.specs.Prelude.{◌≡◌, ℕ, true, List, [], ◌∷◌, Some, None, ◌⊎◌}
use Rattle.std.specs.Str.{chars}
use Rattle.rule_tokens.specs.declared.refused.Bad.{Bad}
use Rattle.rule_tokens.specs.declared.refused.Bad.TheVariants.{Long, Utf8, Quote, Escape, Word, Arity, Place}
use Rattle.rule_tokens.specs.declared.token.Token.{Token}
use Rattle.rule_tokens.specs.Cases.{SaysLine, LexicalCase, FirstOf}
use Rattle.rule_lines.specs.Spells.{Spelled}
use Rattle.rule_lines.specs.Whole.{IsForm, HasWrongWord, HasWrongNumber}
use Rattle.rule_reader.specs.declared.pieces.Form.{Form}
use Rattle.rule_reader.specs.AsRead.{form_as_read}
use Rattle.rule_script.specs.Place.{said_of, is_barred}

-- the line isn't blank, and its tokens are so
abbrev pub HasTokens : List ℕ → (List Token → Type 0) → Type 0
HasTokens bytes AreSo = (ts : List Token) × (SaysLine (chars bytes) (Some ts) × AreSo ts)

-- the tokens are a form, which says nothing where it stands, or is barred there
pub record IsMisplaced (ts : List Token) : Type 0 where
  pub form : Form
  pub spelled : Spelled ts (form_as_read form)
  pub wrong : (said_of form ≡ None) ⊎ (is_barred form ≡ true)

-- a control character or a bare backslash stands in the line; or the first word is none of the table, or a token does
-- not have the form of the operand that is wanted there
abbrev pub WrongWord : ℕ → List ℕ → Type 0
WrongWord limit bytes = LexicalCase limit bytes Word ⊎ HasTokens bytes (HasWrongWord IsForm)

-- an operand is missing, or one is left over
abbrev pub WrongArity : List ℕ → Type 0
WrongArity bytes = HasTokens bytes (HasWrongNumber IsForm)

-- a form stands where it is not allowed
abbrev pub WrongPlace : List ℕ → Type 0
WrongPlace bytes = HasTokens bytes IsMisplaced

-- the case of each fault of a line that may have so many bytes
abbrev pub Case : ℕ → List ℕ → Bad → Type 0
Case limit bytes Word = WrongWord limit bytes
Case limit bytes Arity = WrongArity bytes
Case limit bytes Place = WrongPlace bytes
Case limit bytes b = LexicalCase limit bytes b

-- the order in which the faults are looked for
abbrev pub fault_order : List Bad
fault_order = Long ∷ Utf8 ∷ Quote ∷ Escape ∷ Word ∷ Arity ∷ Place ∷ []

-- it is refused for the first case that holds
abbrev pub RefusedFor : ℕ → List ℕ → Bad → Type 0
RefusedFor limit bytes b = FirstOf (Case limit bytes) fault_order b
