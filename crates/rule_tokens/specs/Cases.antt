-- What a line says by its tokens, and the case of each fault that its tokens show. The first case that holds is
-- the one that a line is refused for.
use Rattle.std.specs.Prelude.{◌≡◌, ℕ, ◌<◌, ◌≤◌, Bool, true, false, List, [], ◌∷◌, length, Option, Some, None, ◌⊎◌, encode_utf8_all}
use Rattle.std.specs.Char.{is_ascii_control}
use Rattle.std.specs.List.{list_any}
use Rattle.std.specs.Str.{chars, IsUtf8}
use Rattle.rule_tokens.specs.declared.refused.Bad.{Bad}
use Rattle.rule_tokens.specs.declared.refused.Bad.TheVariants.{Long, Utf8, Quote, Escape, Word}
use Rattle.rule_tokens.specs.declared.cutting.Raw.{Raw}
use Rattle.rule_tokens.specs.declared.token.Token.{Token}
use Rattle.rule_tokens.specs.Layout.{LaidOut, IsMisquoted}
use Rattle.rule_tokens.specs.Signs.{IsReadAs, WrongEscape}
use Rattle.rule_tokens.specs.Tokens.{has_bare_backslash, is_blank}

-- in quotes the signs are read; a bare token says itself
abbrev pub SaysBy : Bool → List ℕ → List ℕ → Type 0
SaysBy true stands text = IsReadAs stands text
SaysBy false stands text = stands ≡ text

-- the token says what stands in the line
pub record Says (r : Raw) (t : Token) : Type 0 where
  pub text : List ℕ
  pub says : SaysBy r.quoted r.chars text
  pub bytes : t.text ≡ encode_utf8_all text
  pub quoted : t.quoted ≡ r.quoted

abbrev pub AllSay : List Raw → List Token → Type 0
AllSay [] [] = Unit {0}
AllSay [] (t ∷ ts) = ⊥
AllSay (r ∷ rs) [] = ⊥
AllSay (r ∷ rs) (t ∷ ts) = Says r t × AllSay rs ts

-- some token is quoted and has a backslash that begins no escape
abbrev pub SomeWrong : List Raw → Type 0
SomeWrong [] = ⊥
SomeWrong (r ∷ rs) = ((r.quoted ≡ true) × WrongEscape r.chars) ⊎ SomeWrong rs

-- the line is laid out as tokens, and one has a wrong escape
abbrev pub HasWrongEscape : List ℕ → Type 0
HasWrongEscape line = (rs : List Raw) × (LaidOut line rs × SomeWrong rs)

-- below U+0020, or U+007F
abbrev pub HasControl : List ℕ → Type 0
HasControl line = list_any is_ascii_control line ≡ true

-- the line is laid out as tokens, and a backslash stands in a bare one
abbrev pub HasBareBackslash : List ℕ → Type 0
HasBareBackslash line = (rs : List Raw) × (LaidOut line rs × (list_any has_bare_backslash rs ≡ true))

-- the case of each fault that the tokens of a line show
abbrev pub TokenCase : List ℕ → Bad → Type 0
TokenCase line Quote = IsMisquoted line
TokenCase line Escape = HasWrongEscape line
TokenCase line Word = HasControl line ⊎ HasBareBackslash line
TokenCase line _ = ⊥

abbrev pub IsNotBlank : List ℕ → Type 0
IsNotBlank line = is_blank line ≡ false

-- the case of each fault of a line that may have so many bytes, as far as its tokens show it: what its words and
-- operands must be, and where a form may stand, is not asked here
abbrev pub LexicalCase : ℕ → List ℕ → Bad → Type 0
LexicalCase limit bytes Long = limit < length bytes
LexicalCase limit bytes Utf8 = IsUtf8 bytes → ⊥
LexicalCase limit bytes bad = IsNotBlank (chars bytes) × TokenCase (chars bytes) bad

-- the order in which they are looked for
abbrev pub lexical_order : List Bad
lexical_order = Long ∷ Utf8 ∷ Quote ∷ Escape ∷ Word ∷ []

-- of these faults it is the first whose case holds
abbrev pub FirstOf : (Bad → Type 0) → List Bad → Bad → Type 0
FirstOf Holds [] b = ⊥
FirstOf Holds (f ∷ fs) b = ((b ≡ f) × Holds f) ⊎ ((Holds f → ⊥) × FirstOf Holds fs b)

-- none of them has its case
abbrev pub NoneOf : (Bad → Type 0) → List Bad → Type 0
NoneOf Holds [] = Unit {0}
NoneOf Holds (f ∷ fs) = (Holds f → ⊥) × NoneOf Holds fs

-- the line is laid out as tokens that say these
pub record SaysTokens (line : List ℕ) (ts : List Token) : Type 0 where
  pub raws : List Raw
  pub laid_out : LaidOut line raws
  pub say : AllSay raws ts

-- a blank line says None, another one its tokens
abbrev pub SaysLine : List ℕ → Option (List Token) → Type 0
SaysLine line None = is_blank line ≡ true
SaysLine line (Some ts) = IsNotBlank line × SaysTokens line ts

-- it is refused for the first case that holds
abbrev pub RefusedFor : ℕ → List ℕ → Bad → Type 0
RefusedFor limit bytes b = FirstOf (LexicalCase limit bytes) lexical_order b

-- the line is within the limit, is UTF-8, has no fault, and says this
pub record ReadsTo (limit : ℕ) (bytes : List ℕ) (said : Option (List Token)) : Type 0 where
  pub short : length bytes ≤ limit
  pub utf8 : IsUtf8 bytes
  pub faultless : NoneOf (LexicalCase limit bytes) lexical_order
  pub says : SaysLine (chars bytes) said
