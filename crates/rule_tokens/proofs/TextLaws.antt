-- Tokens that are written as a line are a text.
use Rattle.std.proofs.Common.{◌≡◌, ◌<◌, ℕ, ◌/◌, ◌%◌, Bool, true, false, cond, List, [], ◌∷◌, ◌++◌, Option, Some, None, refl, arith}
use Rattle.std.specs.Prelude.{nat_lt, encode_utf8_all}
use Rattle.std.specs.Char.{digit_char, is_ascii_control}
use Rattle.std.specs.List.{list_all}
use Rattle.std.specs.Str.{all_scalars, chars, IsUtf8}
use Rattle.std.proofs.lemmas.Bool.{and_parts}
use Rattle.std.proofs.lemmas.Bool.Decides.{nat_tests}
use Rattle.std.proofs.lemmas.Str.{IsUtf8-append, IsUtf8-nil, scalars-chars}
use Rattle.std.proofs.Math.Utf8.{scalar}
use Rattle.ce_base.proofs.Utf8.{IsUtf8-ascii}
use Rattle.rule_tokens.specs.declared.token.Token.{Token}
use Rattle.rule_tokens.specs.Quoted.{escape, escape_by, escaped, in_quotes, short_letter}
use Rattle.rule_tokens.specs.Spaced.{written_by, written, spaced, is_bare_byte, IsCleanBy, AreClean, WrittenIsText}

-- ---- bytes

more_text : (b : ℕ) (bs : List ℕ) → b < 128 → IsUtf8 bs → IsUtf8 (b ∷ bs)
more_text b bs small text = IsUtf8-append (b ∷ []) bs (IsUtf8-ascii b small) text

pub bare_small : (b : ℕ) → is_bare_byte b ≡ true → b < 128
bare_small b is = grind (arith, nat_tests)

bare_text : (bs : List ℕ) → list_all is_bare_byte bs ≡ true → IsUtf8 bs
bare_text [] are = IsUtf8-nil
bare_text (b ∷ bs) are =
    let both = and_parts (is_bare_byte b) (list_all is_bare_byte bs) are in
    more_text b bs (bare_small b both.0) (bare_text bs both.1)

-- ---- escapes

letter_scalar : (c d : ℕ) → short_letter c ≡ Some d → scalar d ≡ true
letter_scalar c d is = grind (arith, nat_tests)

digit_scalar : (d : ℕ) → d < 16 → scalar (digit_char d) ≡ true
digit_scalar d small = grind (arith, nat_tests)

hex_scalars : (b : Bool) (n : ℕ) → n < 256 → all_scalars (cond b (digit_char (n % 16) ∷ []) (digit_char (n / 16) ∷ digit_char (n % 16) ∷ []) ++ 125 ∷ []) ≡ true
hex_scalars true n small = rw (digit_scalar (n % 16) (omega arith)) refl
hex_scalars false n small = rw (digit_scalar (n / 16) (omega arith), digit_scalar (n % 16) (omega arith)) refl

pub control_small : (c : ℕ) → is_ascii_control c ≡ true → c < 128
control_small c is = grind (arith, nat_tests)

escape_scalars : (letter : Option ℕ) (control : Bool) (c : ℕ) → scalar c ≡ true → short_letter c ≡ letter → is_ascii_control c ≡ control
    → all_scalars (escape_by letter c) ≡ true
escape_scalars (Some d) control c is letter_is control_is = rw (letter_scalar c d letter_is) refl
escape_scalars None true c is letter_is control_is = rw control_is (hex_scalars (nat_lt c 16) c (omega (arith, control_small c control_is)))
escape_scalars None false c is letter_is control_is = rw (control_is, is) refl

escape_text : (c : ℕ) → scalar c ≡ true → IsUtf8 (encode_utf8_all (escape c))
unfolding escape
escape_text c is = (escape c, (escape_scalars (short_letter c) (is_ascii_control c) c is refl refl, refl))

escaped_text : (cs : List ℕ) → all_scalars cs ≡ true → IsUtf8 (escaped cs)
escaped_text [] are = IsUtf8-nil
escaped_text (c ∷ cs) are =
    let both = and_parts (scalar c) (all_scalars cs) are in
    IsUtf8-append (encode_utf8_all (escape c)) (escaped cs) (escape_text c both.0) (escaped_text cs both.1)

quotes_text : (text : List ℕ) → IsUtf8 text → IsUtf8 (in_quotes text)
quotes_text text utf8 = more_text 34 (escaped (chars text) ++ 34 ∷ []) (omega arith)
    (IsUtf8-append (escaped (chars text)) (34 ∷ []) (escaped_text (chars text) (scalars-chars text utf8)) (IsUtf8-ascii 34 (omega arith)))

-- ---- tokens

by_text : (b : Bool) (text : List ℕ) → IsCleanBy b text → IsUtf8 (written_by b text)
by_text true text clean = quotes_text text clean
by_text false text clean = bare_text text clean.1

spaced_text : (ts : List Token) → AreClean ts → IsUtf8 (spaced ts)
spaced_text [] clean = IsUtf8-nil
spaced_text (t ∷ ts) clean = more_text 32 (written t ++ spaced ts) (omega arith)
    (IsUtf8-append (written t) (spaced ts) (by_text t.quoted t.text clean.0) (spaced_text ts clean.1))

pub written_is_text : WrittenIsText
written_is_text [] clean = IsUtf8-nil
written_is_text (t ∷ ts) clean = IsUtf8-append (written t) (spaced ts) (by_text t.quoted t.text clean.0) (spaced_text ts clean.1)
