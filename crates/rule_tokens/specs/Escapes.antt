-- The escapes of a quoted token.
use Rattle.std.specs.Prelude.{◌≡◌, ℕ, ◌+◌, ◌*◌, ◌&&◌, List, [], ◌∷◌, ◌++◌, length}
use Rattle.std.specs.Prelude.{Option, Some, None, option_and_then, Result, Ok, Err, ◌==◌, nat_lt, if◌then◌else◌}
use Rattle.std.specs.Char.{digit_value}
use Rattle.std.proofs.Math.Utf8.{scalar}
use Rattle.rule_tokens.specs.declared.refused.Bad.{Bad}
use Rattle.rule_tokens.specs.declared.refused.Bad.TheVariants.{Escape}
use Rattle.rule_tokens.specs.declared.refused.LineRefused.{LineRefused}
use Rattle.rule_tokens.specs.declared.escapes.InEscape.{InEscape}
use Rattle.rule_tokens.specs.declared.escapes.InEscape.TheVariants.{Outside, AfterBackslash, AfterU, Digits}
use Rattle.rule_tokens.specs.Gives.{with_front, Fails}

-- the number that hexadecimal digits write behind those of n
unfoldable pub hex_from : ℕ → List ℕ → Option ℕ
hex_from n [] = Some n
hex_from n (c ∷ cs) = if nat_lt (digit_value c) 16 then hex_from (n * 16 + digit_value c) cs else None

-- the character that one to six hexadecimal digits name
unfoldable pub named : List ℕ → Option ℕ
named digits = if nat_lt 0 (length digits) && nat_lt (length digits) 7
    then option_and_then (λ n. if scalar n then Some n else None) (hex_from 0 digits) else None

-- what a backslash and one character stand for: \\ \" \n \r \t
abbrev pub short_escape : ℕ → Option ℕ
short_escape c = if c == 92 then Some 92
    else (if c == 34 then Some 34 else (if c == 110 then Some 10 else (if c == 114 then Some 13 else (if c == 116 then Some 9 else None))))

-- one character, and what is still read, or a wrong escape
abbrev pub then_char : Option ℕ → Result (List ℕ) Bad → Result (List ℕ) Bad
then_char None read = Err Escape
then_char (Some c) read = with_front (c ∷ []) read

-- the characters from here on, where the token stands in this part of an escape (92 is a backslash, 117 a u, 123 and 125 are braces)
unfoldable pub unescape : List ℕ → InEscape → Result (List ℕ) Bad
unescape [] Outside = Ok []
unescape [] AfterBackslash = Err Escape
unescape [] AfterU = Err Escape
unescape [] (Digits ds) = Err Escape
unescape (c ∷ cs) Outside = if c == 92 then unescape cs AfterBackslash else with_front (c ∷ []) (unescape cs Outside)
unescape (c ∷ cs) AfterBackslash = if c == 117 then unescape cs AfterU else then_char (short_escape c) (unescape cs Outside)
unescape (c ∷ cs) AfterU = if c == 123 then unescape cs (Digits []) else Err Escape
unescape (c ∷ cs) (Digits ds) = if c == 125 then then_char (named ds) (unescape cs Outside) else unescape cs (Digits (ds ++ c ∷ []))

-- after one more character the characters are the same, whatever follows
abbrev pub EscapeStep : List ℕ → InEscape → ℕ → List ℕ → Result InEscape LineRefused → Type 0
EscapeStep old escape c new (Ok next) = (cs : List ℕ) → with_front old (unescape (c ∷ cs) escape) ≡ with_front new (unescape cs next)
EscapeStep old escape c new (Err e) = (cs : List ℕ) → Fails e (unescape (c ∷ cs) escape)
