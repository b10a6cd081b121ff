-- Line ends as they are sent, and the escapes of names, leave a text a text.
use Rattle.std.proofs.Common.{◌≡◌, ◌<◌, ◌≤◌, ℕ, Bool, false, not, ◌&&◌, List, [], ◌∷◌, refl, arith}
use Rattle.std.specs.Prelude.{IsUtf8, nat_eq, flat_map}
use Rattle.std.proofs.lemmas.Bool.{cond_both, ne_eqb}
use Rattle.std.proofs.lemmas.Str.{IsUtf8-append}
use Rattle.form_submission.specs.Encodings.{escaped, escaped_byte}
use Rattle.form_submission.specs.LineEnds.{begins_with_line_feed, full_byte, full_from, newline, with_full_newlines}
use Rattle.ce_base.proofs.Utf8.{IsUtf8-ascii}
use Rattle.form_submission.proofs.Characters.{GoesByCharacter, IsUtf8-made}

high_differs : (b c : ℕ) → 128 ≤ b → c < 128 → nat_eq b c ≡ false
high_differs b c high low = ne_eqb b c (λ e. omega (arith, e))

-- ---- line ends

IsUtf8-newline : IsUtf8 newline
IsUtf8-newline = IsUtf8-append (13 ∷ []) (10 ∷ []) (IsUtf8-ascii 13 (omega arith)) (IsUtf8-ascii 10 (omega arith))

IsUtf8-full_byte : (p : Bool) (b : ℕ) (rest : List ℕ) → b < 128 → IsUtf8 (full_byte p b rest)
IsUtf8-full_byte p b rest low =
    cond_both (nat_eq b 13 && not (begins_with_line_feed rest)) _ _ IsUtf8 (λ _. IsUtf8-newline)
    (λ _. cond_both (nat_eq b 10 && not p) _ _ IsUtf8 (λ _. IsUtf8-newline) (λ _. IsUtf8-ascii b low))

full_goes : GoesByCharacter full_from
full_goes = record {
  none = λ p. refl;
  high = λ p b rest high. rw (high_differs b 13 high (omega arith), high_differs b 10 high (omega arith)) refl;
  low = λ p b rest low. (full_byte p b rest, nat_eq b 13, IsUtf8-full_byte p b rest low, refl);
}

pub IsUtf8-with_full_newlines : (text : List ℕ) → IsUtf8 text → IsUtf8 (with_full_newlines text)
IsUtf8-with_full_newlines text is = IsUtf8-made full_from full_goes false text is

-- ---- names

IsUtf8-three : (b c d : ℕ) → b < 128 → c < 128 → d < 128 → IsUtf8 (b ∷ c ∷ d ∷ [])
IsUtf8-three b c d p q r =
    IsUtf8-append (b ∷ []) (c ∷ d ∷ []) (IsUtf8-ascii b p) (IsUtf8-append (c ∷ []) (d ∷ []) (IsUtf8-ascii c q) (IsUtf8-ascii d r))

IsUtf8-escaped_byte : (b : ℕ) → b < 128 → IsUtf8 (escaped_byte b)
IsUtf8-escaped_byte b low =
    cond_both (nat_eq b 10) _ _ IsUtf8 (λ _. IsUtf8-three 37 48 65 (omega arith) (omega arith) (omega arith))
    (λ _. cond_both (nat_eq b 13) _ _ IsUtf8 (λ _. IsUtf8-three 37 48 68 (omega arith) (omega arith) (omega arith))
    (λ _. cond_both (nat_eq b 34) _ _ IsUtf8 (λ _. IsUtf8-three 37 50 50 (omega arith) (omega arith) (omega arith)) (λ _. IsUtf8-ascii b low)))

escaped_goes : GoesByCharacter (λ p bytes. flat_map escaped_byte bytes)
escaped_goes = record {
  none = λ p. refl;
  high = λ p b rest high. rw (high_differs b 10 high (omega arith), high_differs b 13 high (omega arith), high_differs b 34 high (omega arith)) refl;
  low = λ p b rest low. (escaped_byte b, false, IsUtf8-escaped_byte b low, refl);
}

pub IsUtf8-escaped : (name : List ℕ) → IsUtf8 name → IsUtf8 (escaped name)
IsUtf8-escaped name is =
    IsUtf8-made (λ p bytes. flat_map escaped_byte bytes) escaped_goes false (with_full_newlines name) (IsUtf8-with_full_newlines name is)
