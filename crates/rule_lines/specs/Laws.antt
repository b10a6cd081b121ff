-- What holds of reading a form.
use Rattle.std.specs.Prelude.{◌≡◌, ◌↔◌, List, Ok, Err}
use Rattle.rule_lines.specs.Canon.{canon_tokens}
use Rattle.rule_lines.specs.Clean.{AreTexts}
use Rattle.rule_tokens.specs.declared.refused.Bad.TheVariants.{Word, Arity}
use Rattle.rule_tokens.specs.declared.token.Token.{Token}
use Rattle.rule_tokens.specs.Spaced.{AreClean, IsLine}
use Rattle.rule_lines.specs.declared.read_as.ReadAs.{ReadAs}
use Rattle.rule_lines.specs.Read.{Reads, read_tokens}
use Rattle.rule_lines.specs.Spells.{Spelled}
use Rattle.rule_lines.specs.Whole.{IsForm, HasWrongWord, HasWrongNumber}

-- what is read is a form; what is refused has a wrong word, or a wrong number of operands
abbrev pub IsAnswer : List Token → Reads → Type 0
IsAnswer ts (Ok read_as) = IsForm ts
IsAnswer ts (Err Word) = HasWrongWord IsForm ts
IsAnswer ts (Err Arity) = HasWrongNumber IsForm ts
IsAnswer ts (Err _) = ⊥

-- each reading is answered by the case that holds
abbrev pub FormsAreRead : Type 0
FormsAreRead = (ts : List Token) → IsAnswer ts (read_tokens ts)

-- what is read is what the tokens spell, and only that
abbrev pub SpelledIsRead : Type 0
SpelledIsRead = (ts : List Token) (read_as : List ReadAs) → Spelled ts read_as ↔ (read_tokens ts ≡ Ok read_as)

-- no two of these hold: the tokens are a form; they have a wrong word; they have a wrong number of operands
pub record OneFault (ts : List Token) : Type 0 where
  pub form_word : IsForm ts → HasWrongWord IsForm ts → ⊥
  pub form_number : IsForm ts → HasWrongNumber IsForm ts → ⊥
  pub word_number : HasWrongWord IsForm ts → HasWrongNumber IsForm ts → ⊥

abbrev pub FaultsAreApart : Type 0
FaultsAreApart = (ts : List Token) → OneFault ts

-- what tokens spell is spelled by its canonical tokens too
abbrev pub CanonicalIsSpelled : Type 0
CanonicalIsSpelled = (ts : List Token) (read_as : List ReadAs) → Spelled ts read_as → Spelled (canon_tokens read_as) read_as

-- the canonical tokens of what is spelled can be written as a line and read again, where the quoted ones say texts
abbrev pub CanonicalIsClean : Type 0
CanonicalIsClean =
    (ts : List Token) (read_as : List ReadAs) → Spelled ts read_as → AreTexts (canon_tokens read_as) → AreClean (canon_tokens read_as)
    × IsLine (canon_tokens read_as)
