-- How the inside of a quoted token is written: characters as they stand, and escapes. (92 is a backslash, 117 a
-- u, 123 and 125 are braces.)
use Rattle.std.specs.Prelude.{◌≡◌, ◌≢◌, ℕ, List, [], ◌∷◌, ◌++◌, Some, ◌⊎◌}
use Rattle.rule_tokens.specs.Escapes.{named, short_escape}

-- a character as it stands, a backslash and a letter, or \u{..} with digits
pub data Sign : Type 0 where
  Itself : ℕ → Sign
  Letter : ℕ → Sign
  Code : List ℕ → Sign

abbrev pub signs : List Sign → List ℕ
signs [] = []
signs (Itself c ∷ ss) = c ∷ signs ss
signs (Letter l ∷ ss) = 92 ∷ l ∷ signs ss
signs (Code ds ∷ ss) = 92 ∷ 117 ∷ 123 ∷ (ds ++ 125 ∷ signs ss)

-- the sign says this character
abbrev pub SaysOne : Sign → ℕ → Type 0
SaysOne (Itself c) d = (c ≢ 92) × (c ≡ d)
SaysOne (Letter l) d = short_escape l ≡ Some d
SaysOne (Code ds) d = named ds ≡ Some d

-- each says the character at its place
abbrev pub Say : List Sign → List ℕ → Type 0
Say [] [] = Unit {0}
Say [] (d ∷ text) = ⊥
Say (s ∷ ss) [] = ⊥
Say (s ∷ ss) (d ∷ text) = SaysOne s d × Say ss text

-- the characters between the quotes say this text
abbrev pub IsReadAs : List ℕ → List ℕ → Type 0
IsReadAs inside text = (ss : List Sign) × ((inside ≡ signs ss) × Say ss text)

-- behind a backslash: a letter of a short escape, or u and digits in braces that name a character
abbrev pub BeginsEscape : List ℕ → Type 0
BeginsEscape rest =
    ((l : ℕ) × (d : ℕ) × (more : List ℕ) × ((short_escape l ≡ Some d) × (rest ≡ l ∷ more)))
    ⊎ ((ds : List ℕ) × (d : ℕ) × (more : List ℕ) × ((named ds ≡ Some d) × (rest ≡ 117 ∷ 123 ∷ (ds ++ 125 ∷ more))))

-- behind some signs stands a backslash that begins no escape
pub record WrongEscape (inside : List ℕ) : Type 0 where
  pub before : List Sign
  pub text : List ℕ
  pub said : Say before text
  pub rest : List ℕ
  pub inside_is : inside ≡ signs before ++ 92 ∷ rest
  pub wrong : BeginsEscape rest → ⊥
