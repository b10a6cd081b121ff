-- Which tokens are a whole of what is wanted, and what is wrong with others.
use Rattle.std.specs.Prelude.{◌≡◌, ℕ, zero, suc, Bool, true, false, List, [], ◌∷◌, ◌++◌, Option, Some, None, ◌⊎◌}
use Rattle.std.specs.List.{list_any}
use Rattle.rule_tokens.specs.declared.token.Token.{Token}
use Rattle.rule_tokens.specs.OperandForms.{is_word}
use Rattle.rule_lines.specs.Rows.{forms}
use Rattle.rule_lines.specs.declared.read_as.Kind.{Kind}
use Rattle.rule_lines.specs.declared.read_as.ReadAs.{ReadAs}
use Rattle.rule_lines.specs.declared.keyword.Keyword.TheVariants as keywords
use Rattle.rule_lines.specs.FixedWords.{keyword, spelling}
use Rattle.rule_lines.specs.Grammar.{said_as, Key, Wants, End, One, Pick, Keys, Maybe, Many, Pairs, Inner, Rows, LastRow, Row}

-- the token has the form of the operand
abbrev pub Fits : Kind → Token → Type 0
Fits kind t = (got : ReadAs) × (said_as kind t ≡ Some got)

-- what stands behind a keyword: its operand, if it has one, and then the rest
abbrev pub BehindKey : Option Kind → (List Token → Type 0) → List Token → Type 0
BehindKey None Rest ts = Rest ts
BehindKey (Some kind) Rest [] = ⊥
BehindKey (Some kind) Rest (t ∷ ts) = Fits kind t × Rest ts

-- the first of two facts where the test holds, else the second
abbrev pub either : Bool → Type 0 → Type 0 → Type 0
either true first second = first
either false first second = second

-- optional parts in their order
abbrev pub WholeKeys : List Key → List Token → Type 0
WholeKeys [] [] = Unit {0}
WholeKeys [] (t ∷ ts) = ⊥
WholeKeys (key ∷ keys) [] = Unit {0}
WholeKeys (key ∷ keys) (t ∷ ts) = either (is_word (keyword key.word) t) (BehindKey key.operand (WholeKeys keys) ts) (WholeKeys keys (t ∷ ts))

abbrev pub WholeMaybe : Kind → List Token → Type 0
WholeMaybe kind [] = Unit {0}
WholeMaybe kind (t ∷ []) = Fits kind t
WholeMaybe kind (t ∷ u ∷ ts) = ⊥

abbrev pub WholeMany : ℕ → Kind → List Token → Type 0
WholeMany n kind [] = Unit {0}
WholeMany zero kind (t ∷ ts) = ⊥
WholeMany (suc n) kind (t ∷ ts) = Fits kind t × WholeMany n kind ts

abbrev pub WholePairs : ℕ → Kind → List Token → Type 0
WholePairs n kind [] = Unit {0}
WholePairs zero kind (t ∷ ts) = ⊥
WholePairs (suc n) kind (t ∷ []) = ⊥
WholePairs (suc n) kind (t ∷ u ∷ ts) = (Fits kind t × Fits kind u) × WholePairs n kind ts

-- the tokens are all that is wanted, where an action is of the given kind
abbrev mutual
  pub Whole : (List Token → Type 0) → Wants → List Token → Type 0
  Whole Action End [] = Unit {0}
  Whole Action End (t ∷ ts) = ⊥
  Whole Action (One kind more) [] = ⊥
  Whole Action (One kind more) (t ∷ ts) = Fits kind t × Whole Action more ts
  Whole Action (Pick rows) [] = ⊥
  Whole Action (Pick rows) (t ∷ ts) = WholeRow Action rows t ts
  Whole Action (Keys keys) ts = WholeKeys keys ts
  Whole Action (Maybe kind) ts = WholeMaybe kind ts
  Whole Action (Many n kind) ts = WholeMany n kind ts
  Whole Action (Pairs n kind) ts = WholePairs n kind ts
  Whole Action Inner ts = Action ts

  pub WholeRow : (List Token → Type 0) → Rows → Token → List Token → Type 0
  WholeRow Action (LastRow word wants) t ts = either (is_word (spelling word) t) (Whole Action wants ts) ⊥
  WholeRow Action (Row word wants rows) t ts = either (is_word (spelling word) t) (Whole Action wants ts) (WholeRow Action rows t ts)

-- the tokens are a form, in which actions stand in actions up to so deep
abbrev pub FormWithin : ℕ → List Token → Type 0
FormWithin zero ts = ⊥
FormWithin (suc depth) ts = Whole (FormWithin depth) (Pick forms) ts

-- the tokens are a form
abbrev pub IsForm : List Token → Type 0
IsForm ts = (depth : ℕ) × FormWithin depth ts

-- ---- what is wrong with tokens that are no whole

-- some tokens more make them whole
abbrev pub Begins : (List Token → Type 0) → List Token → Type 0
Begins IsWhole ts = (more : List Token) × IsWhole (ts ++ more)

-- the keyword of some optional part
abbrev pub is_keyword : Token → Bool
is_keyword t = list_any (λ word. is_word (keyword word) t) (keywords.Is ∷ keywords.In ∷ keywords.Extends ∷ keywords.State ∷ keywords.Deep ∷ [])

-- an operand may follow: they are not whole yet, or a token may follow that is no keyword
abbrev pub WantsOperand : (List Token → Type 0) → List Token → Type 0
WantsOperand IsWhole ts = (IsWhole ts → ⊥) ⊎ ((t : Token) × ((is_keyword t ≡ false) × Begins IsWhole (ts ++ t ∷ [])))

-- a token stands where an operand or a word is wanted, and does not have its form; all before it fit
pub record HasWrongWord (IsWhole : List Token → Type 0) (ts : List Token) : Type 0 where
  pub before : List Token
  pub token : Token
  pub rest : List Token
  pub tokens_are : ts ≡ before ++ token ∷ rest
  pub begins : Begins IsWhole before
  pub wants : WantsOperand IsWhole before
  pub unfit : Begins IsWhole (before ++ token ∷ []) → ⊥

-- all fit, and one is missing
abbrev pub LacksOne : (List Token → Type 0) → List Token → Type 0
LacksOne IsWhole ts = Begins IsWhole ts × (IsWhole ts → ⊥)

-- a token is left over: those before it are whole, nothing but a keyword may follow them, and it may not
pub record HasOneOver (IsWhole : List Token → Type 0) (ts : List Token) : Type 0 where
  pub before : List Token
  pub token : Token
  pub rest : List Token
  pub tokens_are : ts ≡ before ++ token ∷ rest
  pub whole : IsWhole before
  pub wants : WantsOperand IsWhole before → ⊥
  pub unfit : Begins IsWhole (before ++ token ∷ []) → ⊥

abbrev pub HasWrongNumber : (List Token → Type 0) → List Token → Type 0
HasWrongNumber IsWhole ts = LacksOne IsWhole ts ⊎ HasOneOver IsWhole ts
