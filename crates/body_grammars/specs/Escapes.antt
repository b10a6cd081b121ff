-- Names and values as a urlencoded body spells them, read (URL Standard, section "application/x-www-form-urlencoded parsing").
use Rattle.std.specs.Prelude.{◌≡◌, ℕ, ◌+◌, ◌*◌, ◌&&◌, ◌==◌, nat_lt, if◌then◌else◌, List, [], ◌∷◌, Option, Some, None, Result, Ok, Err}
use Rattle.std.specs.Char.{digit_value}
use Rattle.body_grammars.specs.Bodies.{is_bare}
use Rattle.body_grammars.specs.declared.refused.BodyRefused.{BodyRefused}
use Rattle.body_grammars.specs.declared.refused.BodyRefused.TheVariants.{NotABody, NoMemory}
use Rattle.body_grammars.specs.declared.spelled.InEscape.{InEscape}
use Rattle.body_grammars.specs.declared.spelled.InEscape.TheVariants.{Outside, AfterPercent, AfterDigit}
use Rattle.body_grammars.specs.Gives.{with_front, then_one}
use Rattle.body_grammars.specs.Cuts.{only_utf8}

-- a byte that begins no escape
abbrev pub bare : ℕ → Option ℕ
bare b = if b == 43 then Some 32 else if is_bare b then Some b else None

-- two hexadecimal digits
abbrev pub escaped : ℕ → ℕ → Option ℕ
escaped high low =
    if nat_lt (digit_value high) 16 && nat_lt (digit_value low) 16 then Some (16 * digit_value high + digit_value low) else None

unfoldable pub unspell : List ℕ → InEscape → Option (List ℕ)
unspell [] Outside = Some []
unspell [] AfterPercent = None
unspell [] (AfterDigit high) = None
unspell (b ∷ bytes) Outside = if b == 37 then unspell bytes AfterPercent else then_one (bare b) (unspell bytes Outside)
unspell (b ∷ bytes) AfterPercent = unspell bytes (AfterDigit b)
unspell (b ∷ bytes) (AfterDigit high) = then_one (escaped high b) (unspell bytes Outside)

-- a step of the reading: the same is read, whatever follows
abbrev pub IsStep : List ℕ → InEscape → ℕ → List ℕ → Result InEscape BodyRefused → Type 0
IsStep old escape b new (Ok next) = (bytes : List ℕ) → with_front old (unspell (b ∷ bytes) escape) ≡ with_front new (unspell bytes next)
IsStep old escape b new (Err NotABody) = (bytes : List ℕ) → unspell (b ∷ bytes) escape ≡ None
IsStep old escape b new (Err NoMemory) = Unit {0}

abbrev pub then_utf8 : Option (List ℕ) → Option (List ℕ)
then_utf8 None = None
then_utf8 (Some bytes) = only_utf8 bytes

-- a name or a value
abbrev pub read_text : List ℕ → Option (List ℕ)
read_text bytes = then_utf8 (unspell bytes Outside)
