-- Which tokens spell what: each token says what the table wants there, and what it says stands in the list of
-- what is read.
use Rattle.std.specs.Prelude.{◌≡◌, ℕ, zero, suc, List, [], ◌∷◌, Option, Some, None}
use Rattle.rule_tokens.specs.declared.token.Token.{Token}
use Rattle.rule_tokens.specs.OperandForms.{is_word}
use Rattle.rule_lines.specs.Rows.{forms}
use Rattle.rule_lines.specs.declared.read_as.Kind.{Kind}
use Rattle.rule_lines.specs.declared.read_as.ReadAs.{ReadAs}
use Rattle.rule_lines.specs.declared.read_as.ReadAs.TheVariants as read_as
use Rattle.rule_lines.specs.FixedWords.{keyword, spelling}
use Rattle.rule_lines.specs.Grammar.{said_as, Key, Wants, End, One, Pick, Keys, Maybe, Many, Pairs, Inner, Rows, LastRow, Row}
use Rattle.rule_lines.specs.Whole.{either}

-- the tokens spell what is read
abbrev pub Spelling : Type 1
Spelling = List Token → List ReadAs → Type 0

-- no token, and nothing is read
abbrev pub SpellNothing : Spelling
SpellNothing [] [] = Unit {0}
SpellNothing [] (g ∷ gs) = ⊥
SpellNothing (t ∷ ts) gs = ⊥

-- the first token says the first operand that is read, and the others spell the rest
abbrev pub SpellOne : Kind → Spelling → Spelling
SpellOne kind Rest [] gs = ⊥
SpellOne kind Rest (t ∷ ts) [] = ⊥
SpellOne kind Rest (t ∷ ts) (g ∷ gs) = (said_as kind t ≡ Some g) × Rest ts gs

-- this is read first, at no token, and the tokens spell the rest
abbrev pub SpellMarked : ReadAs → Spelling → Spelling
SpellMarked mark Rest ts [] = ⊥
SpellMarked mark Rest ts (g ∷ gs) = (mark ≡ g) × Rest ts gs

-- what stands behind a keyword: its operand, if it has one, and then the rest
abbrev pub SpellBehind : Option Kind → Spelling → Spelling
SpellBehind None Rest ts gs = SpellMarked read_as.There Rest ts gs
SpellBehind (Some kind) Rest ts gs = SpellOne kind Rest ts gs

-- optional parts in their order; one whose keyword does not stand next is not there
abbrev pub SpellKeys : List Key → Spelling
SpellKeys [] ts gs = SpellNothing ts gs
SpellKeys (key ∷ keys) [] gs = SpellMarked read_as.NotThere (SpellKeys keys) [] gs
SpellKeys (key ∷ keys) (t ∷ ts) gs =
    either (is_word (keyword key.word) t) (SpellBehind key.operand (SpellKeys keys) ts gs) (SpellMarked read_as.NotThere (SpellKeys keys) (t ∷ ts) gs)

-- one operand or none
abbrev pub SpellMaybe : Kind → Spelling
SpellMaybe kind [] gs = SpellMarked read_as.NotThere SpellNothing [] gs
SpellMaybe kind (t ∷ ts) gs = SpellOne kind SpellNothing (t ∷ ts) gs

-- so many operands at most
abbrev pub SpellMany : ℕ → Kind → Spelling
SpellMany n kind [] gs = SpellNothing [] gs
SpellMany zero kind (t ∷ ts) gs = ⊥
SpellMany (suc n) kind (t ∷ ts) gs = SpellOne kind (SpellMany n kind) (t ∷ ts) gs

-- so many pairs of operands at most
abbrev pub SpellPairs : ℕ → Kind → Spelling
SpellPairs n kind [] gs = SpellNothing [] gs
SpellPairs zero kind (t ∷ ts) gs = ⊥
SpellPairs (suc n) kind (t ∷ ts) gs = SpellOne kind (SpellOne kind (SpellPairs n kind)) (t ∷ ts) gs

-- the tokens spell all that is wanted, where an action is spelled so
abbrev mutual
  pub Spell : Spelling → Wants → Spelling
  Spell Action End ts gs = SpellNothing ts gs
  Spell Action (One kind more) ts gs = SpellOne kind (Spell Action more) ts gs
  Spell Action (Pick rows) [] gs = ⊥
  Spell Action (Pick rows) (t ∷ ts) gs = SpellRow Action rows t ts gs
  Spell Action (Keys keys) ts gs = SpellKeys keys ts gs
  Spell Action (Maybe kind) ts gs = SpellMaybe kind ts gs
  Spell Action (Many n kind) ts gs = SpellMany n kind ts gs
  Spell Action (Pairs n kind) ts gs = SpellPairs n kind ts gs
  Spell Action Inner ts gs = Action ts gs

  pub SpellRow : Spelling → Rows → Token → Spelling
  SpellRow Action (LastRow word wants) t ts gs = either (is_word (spelling word) t) (SpellMarked (read_as.Word word) (Spell Action wants) ts gs) ⊥
  SpellRow Action (Row word wants rows) t ts gs =
      either (is_word (spelling word) t) (SpellMarked (read_as.Word word) (Spell Action wants) ts gs) (SpellRow Action rows t ts gs)

-- the tokens are a form and spell this, in which actions stand in actions up to so deep
abbrev pub SpellWithin : ℕ → Spelling
SpellWithin zero ts gs = ⊥
SpellWithin (suc depth) ts gs = Spell (SpellWithin depth) (Pick forms) ts gs

-- the tokens are a form, and spell this
abbrev pub Spelled : Spelling
Spelled ts gs = (depth : ℕ) × SpellWithin depth ts gs
