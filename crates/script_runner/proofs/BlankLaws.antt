-- Lines that say nothing.
use Rattle.std.proofs.Common.{◌≡◌, ◌<◌, ◌≤◌, ℕ, Bool, true, false, ◌&&◌, Ok, List, [], ◌∷◌, nat_lt, length, get_or, encode_utf8, encode_utf8_all, refl, sym, ap}
use Rattle.std.proofs.Common.{◌∙◌, arith, inl, inr, length-append}
use Rattle.std.proofs.lemmas.Bool.{cases_lt}
use Rattle.std.proofs.lemmas.Bool.Decides.{nat_tests}
use Rattle.std.proofs.lemmas.Str.{encodes-chars, encode_ascii, char_from_byte, length-encode, len_utf8_bounds, IsUtf8-from_is_utf8}
use Rattle.std.specs.Prelude.{nat_le}
use Rattle.std.specs.Str.{chars, is_utf8}
use Rattle.rule_tokens.specs.Tokens.{is_blank}
use Rattle.rule_lines.specs.Acts.{Blank}
use Rattle.rule_script.specs.Reading.{reading}
use Rattle.script_runner.specs.Blank.{says_nothing}

-- ---- by its bytes

no_blank : (bs : List ℕ) → 0 < length bs → 128 ≤ get_or bs 0 0 → is_blank bs ≡ false
no_blank [] lt high = absurd (omega arith)
no_blank (b ∷ bs) lt high = grind (arith, nat_tests)

not_empty : (c : ℕ) (cs : List ℕ) → 0 < length (encode_utf8_all (c ∷ cs))
not_empty c cs = omega (arith, length-append (encode_utf8 c) (encode_utf8_all cs), length-encode c, (len_utf8_bounds c).0)

first_high : (c : ℕ) (cs : List ℕ) → 128 ≤ c → 128 ≤ get_or (encode_utf8_all (c ∷ cs)) 0 0
first_high c cs high = elim (cases_lt (get_or (encode_utf8_all (c ∷ cs)) 0 0) 128) [
  | inl low ↦ let same = char_from_byte (encode_utf8_all (c ∷ cs)) (encode_utf8_all cs) c refl low (not_empty c cs) in omega (arith, same)
  | inr le ↦ le
]

blank_encodes : (cs : List ℕ) → is_blank (encode_utf8_all cs) ≡ is_blank cs
blank_encodes [] = refl
blank_encodes (c ∷ cs) = elim (cases_lt c 128) [
  | inl low ↦ rw (encode_ascii c low, blank_encodes cs) refl
  | inr high ↦ no_blank (encode_utf8_all (c ∷ cs)) (not_empty c cs) (first_high c cs high) ∙ grind (arith, nat_tests)
]

-- the bytes of a text are blank where its characters are
pub blank_chars : (bs : List ℕ) → is_utf8 bs ≡ true → is_blank (chars bs) ≡ is_blank bs
blank_chars bs e = sym (blank_encodes (chars bs)) ∙ ap is_blank (encodes-chars bs (IsUtf8-from_is_utf8 bs e))

-- ---- by tests of its bytes

-- the three tests in their order
by_tests : Bool → Bool → Bool → Bool
by_tests within text blank = (within && text) && blank

no_text : (within b c : Bool) → by_tests within false b ≡ by_tests within false c
unfolding by_tests
no_text true b c = refl
no_text false b c = refl

bytes_tell : (limit : ℕ) (line : List ℕ) → by_tests (nat_le (length line) limit) (is_utf8 line) (is_blank line) ≡ says_nothing limit line
unfolding by_tests
bytes_tell limit line = go (is_utf8 line) refl
  where
    go : (u : Bool) → is_utf8 line ≡ u
        → by_tests (nat_le (length line) limit) u (is_blank line) ≡ by_tests (nat_le (length line) limit) u (is_blank (chars line))
    go true e = ap (by_tests (nat_le (length line) limit) true) (sym (blank_chars line e))
    go false e = no_text (nat_le (length line) limit) (is_blank line) (is_blank (chars line))

no_blank_either : (within text : Bool) → by_tests within text false ≡ false
unfolding by_tests
no_blank_either true true = refl
no_blank_either true false = refl
no_blank_either false text = refl

blank_either : (text : Bool) → by_tests true text true ≡ text
unfolding by_tests
blank_either true = refl
blank_either false = refl

pub too_long : (limit : ℕ) (line : List ℕ) → nat_le (length line) limit ≡ false → false ≡ says_nothing limit line
unfolding by_tests
too_long limit line long = ap (λ w. by_tests w (is_utf8 line) (is_blank line)) (sym long) ∙ bytes_tell limit line

pub not_blank : (limit : ℕ) (line : List ℕ) → is_blank line ≡ false → false ≡ says_nothing limit line
not_blank limit line said = sym (no_blank_either (nat_le (length line) limit) (is_utf8 line))
    ∙ ap (by_tests (nat_le (length line) limit) (is_utf8 line)) (sym said) ∙ bytes_tell limit line

pub blank_text : (limit : ℕ) (line : List ℕ) → nat_le (length line) limit ≡ true → is_blank line ≡ true → is_utf8 line ≡ says_nothing limit line
blank_text limit line short blank = sym (blank_either (is_utf8 line)) ∙ ap (λ w. by_tests w (is_utf8 line) true) (sym short)
    ∙ ap (by_tests (nat_le (length line) limit) (is_utf8 line)) (sym blank) ∙ bytes_tell limit line

-- ---- by its reading

pub nothing_reads : (limit : ℕ) (line : List ℕ) → says_nothing limit line ≡ true → reading limit line ≡ Ok Blank
unfolding reading
nothing_reads limit line e =
    let short : nat_lt limit (length line) ≡ false = grind (arith, nat_tests) in
    let text : is_utf8 line ≡ true = grind (arith, nat_tests) in
    let blank : is_blank (chars line) ≡ true = grind (arith, nat_tests) in
    rw (short, text, blank) refl
