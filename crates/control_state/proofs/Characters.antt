-- What a reader of bytes does at the bytes of one character.
use Rattle.std.proofs.Common.{◌≡◌, ℕ, ◌+◌, ◌/◌, ◌%◌, ◌≤◌, ◌<◌, Bool, true, false, not, ◌&&◌, ◌||◌, cond, eqb, ltb, List, [], ◌∷◌, ◌++◌, length, refl, arith, ap}
use Rattle.std.proofs.Common.{◌∙◌, sym, append_assoc}
use Rattle.std.proofs.Math.Utf8.{encode}
use Rattle.std.proofs.lemmas.Bool.Decides.{nat_tests}
use Rattle.std.proofs.lemmas.Str.{encode_ascii, length-encode, len_utf8_bounds}
use Rattle.std.specs.List.{AllByRecursion}
use Rattle.std.specs.Char.{is_ascii_whitespace}
use Rattle.form_controls.specs.Texts.{is_newline, without_newlines, normalized_from}
use Rattle.control_state.specs.Reading.{kept_char, normal_char, collapsed_char, collapsed_from}

-- each byte is none of ASCII
abbrev High : List ℕ → Type 0
High bytes = AllByRecursion (λ b. 128 ≤ b) bytes

-- a byte, and then bytes that are none of ASCII, as it is
record Begins (bytes : List ℕ) : Type 0 where
  first : ℕ
  rest : List ℕ
  is : bytes ≡ first ∷ rest
  high : 128 ≤ first
  rest_high : High rest

encode-high : (c : ℕ) (short middle : Bool)
    → High (cond short ((192 + c / 64) ∷ (128 + c % 64) ∷ [])
    (cond middle ((224 + c / 4096) ∷ (128 + (c / 64) % 64) ∷ (128 + c % 64) ∷ [])
    ((240 + c / 262144) ∷ (128 + (c / 4096) % 64) ∷ (128 + (c / 64) % 64) ∷ (128 + c % 64) ∷ [])))
encode-high c true middle = (omega arith, (omega arith, tt))
encode-high c false true = (omega arith, (omega arith, (omega arith, tt)))
encode-high c false false = (omega arith, (omega arith, (omega arith, (omega arith, tt))))

High-encode : (c : ℕ) → ltb c 128 ≡ false → High (encode c)
unfolding encode
High-encode c h = rw h (encode-high c (ltb c 2048) (ltb c 65536))

begins : (bytes : List ℕ) → 0 < length bytes → High bytes → Begins bytes
begins [] some h = absurd (omega arith)
begins (b ∷ bytes) some h = record { first = b; rest = bytes; is = refl; high = h.0; rest_high = h.1 }

encode-begins : (c : ℕ) → ltb c 128 ≡ false → Begins (encode c)
encode-begins c h = begins (encode c) (omega (arith, length-encode c, len_utf8_bounds c)) (High-encode c h)

not_return : (b : ℕ) → 128 ≤ b → eqb b 13 ≡ false
not_return b h = grind (arith, nat_tests)

not_feed : (b : ℕ) → 128 ≤ b → eqb b 10 ≡ false
not_feed b h = grind (arith, nat_tests)

not_white : (b : ℕ) → 128 ≤ b → is_ascii_whitespace b ≡ false
not_white b h = grind (arith, nat_tests)

high_code : (c : ℕ) → ltb c 128 ≡ false → 128 ≤ c
high_code c h = grind (arith, nat_tests)

low_code : (c : ℕ) → ltb c 128 ≡ true → c < 128
low_code c h = grind (arith, nat_tests)

-- newlines that are stripped

kept-high : (bytes rest : List ℕ) → High bytes → without_newlines (bytes ++ rest) ≡ bytes ++ without_newlines rest
kept-high [] rest h = refl
kept-high (b ∷ bytes) rest h =
    let r = not_return b h.0 in
    let f = not_feed b h.0 in
    rw (r, f) (ap (λ more. b ∷ more) (kept-high bytes rest h.1))

kept-one : (newline : Bool) (c : ℕ) (more : List ℕ) → cond (not newline) (c ∷ more) more ≡ cond newline [] (c ∷ []) ++ more
kept-one true c more = refl
kept-one false c more = refl

kept-at : (c : ℕ) (rest : List ℕ) (low : Bool) → ltb c 128 ≡ low → without_newlines (encode c ++ rest) ≡ kept_char c ++ without_newlines rest
kept-at c rest true l =
    let e = encode_ascii c (low_code c l) in rw e (kept-one (is_newline c) c (without_newlines rest))
kept-at c rest false l =
    let b = encode-begins c l in
    let r = not_return c (high_code c l) in
    let f = not_feed c (high_code c l) in
    rw (r, f, b.is) (kept-high (b.first ∷ b.rest) rest (b.high, b.rest_high))

pub without_newlines-char : (c : ℕ) (rest : List ℕ) → without_newlines (encode c ++ rest) ≡ kept_char c ++ without_newlines rest
without_newlines-char c rest = kept-at c rest (ltb c 128) refl

-- newlines that are normalized

normal-high : (bytes rest : List ℕ) → High bytes → normalized_from false (bytes ++ rest) ≡ bytes ++ normalized_from false rest
normal-high [] rest h = refl
normal-high (b ∷ bytes) rest h =
    let r = not_return b h.0 in rw r (ap (λ more. b ∷ more) (normal-high bytes rest h.1))

normal-begun : (behind : Bool) (b : ℕ) (bytes rest : List ℕ) → 128 ≤ b → High bytes
    → normalized_from behind ((b ∷ bytes) ++ rest) ≡ (b ∷ bytes) ++ normalized_from false rest
normal-begun true b bytes rest l h =
    let r = not_return b l in
    let f = not_feed b l in
    rw (r, f) (ap (λ more. b ∷ more) (normal-high bytes rest h))
normal-begun false b bytes rest l h =
    let r = not_return b l in rw r (ap (λ more. b ∷ more) (normal-high bytes rest h))

normal_char-high : (behind : Bool) (c : ℕ) → 128 ≤ c → normal_char behind c ≡ encode c
normal_char-high true c h =
    let r = not_return c h in
    let f = not_feed c h in
    rw (r, f) refl
normal_char-high false c h =
    let r = not_return c h in rw r refl

normal-at : (behind : Bool) (c : ℕ) (rest : List ℕ) (low : Bool) → ltb c 128 ≡ low
    → normalized_from behind (encode c ++ rest) ≡ normal_char behind c ++ normalized_from (eqb c 13) rest
normal-at behind c rest true l =
    let e = encode_ascii c (low_code c l) in rw e refl
normal-at behind c rest false l =
    let b = encode-begins c l in
    let as_is = normal_char-high behind c (high_code c l) in
    let r = not_return c (high_code c l) in
    rw (as_is, r, b.is) (normal-begun behind b.first b.rest rest b.high b.rest_high)

pub normalized_from-char : (behind : Bool) (c : ℕ) (rest : List ℕ)
    → normalized_from behind (encode c ++ rest) ≡ normal_char behind c ++ normalized_from (eqb c 13) rest
normalized_from-char behind c rest = normal-at behind c rest (ltb c 128) refl

-- white space that is collapsed

collapsed-high : (bytes rest : List ℕ) → High bytes → collapsed_from true false (bytes ++ rest) ≡ bytes ++ collapsed_from true false rest
collapsed-high [] rest h = refl
collapsed-high (b ∷ bytes) rest h =
    let w = not_white b h.0 in rw w (ap (λ more. b ∷ more) (collapsed-high bytes rest h.1))

collapsed-begun : (begun apart : Bool) (b : ℕ) (bytes rest : List ℕ) → 128 ≤ b → High bytes
    → collapsed_from begun apart ((b ∷ bytes) ++ rest) ≡ cond (begun && apart) (32 ∷ b ∷ bytes) (b ∷ bytes) ++ collapsed_from (begun || true) false rest
collapsed-begun true true b bytes rest l h =
    let w = not_white b l in rw w (ap (λ more. 32 ∷ b ∷ more) (collapsed-high bytes rest h))
collapsed-begun true false b bytes rest l h =
    let w = not_white b l in rw w (ap (λ more. b ∷ more) (collapsed-high bytes rest h))
collapsed-begun false apart b bytes rest l h =
    let w = not_white b l in rw w (ap (λ more. b ∷ more) (collapsed-high bytes rest h))

collapsed-at : (begun apart : Bool) (c : ℕ) (rest : List ℕ) (low : Bool) → ltb c 128 ≡ low
    → collapsed_from begun apart (encode c ++ rest)
    ≡ collapsed_char (begun && apart) c ++ collapsed_from (begun || not (is_ascii_whitespace c)) (is_ascii_whitespace c) rest
collapsed-at begun apart c rest true l =
    let e = encode_ascii c (low_code c l) in rw e refl
collapsed-at begun apart c rest false l =
    let b = encode-begins c l in
    let w = not_white c (high_code c l) in
    rw (w, b.is) (collapsed-begun begun apart b.first b.rest rest b.high b.rest_high)

pub collapsed_from-char : (begun apart white : Bool) (c : ℕ) (rest : List ℕ) → white ≡ is_ascii_whitespace c
    → collapsed_from begun apart (encode c ++ rest) ≡ collapsed_char (begun && apart) c ++ collapsed_from (begun || not white) white rest
collapsed_from-char begun apart white c rest w = rw w (collapsed-at begun apart c rest (ltb c 128) refl)

-- a turn of a loop that puts what each character adds: with what the rest adds, what is put stays the whole

pub put_more : (made put more before after whole : List ℕ) → made ++ before ≡ whole → more ≡ made ++ put → before ≡ put ++ after → more ++ after ≡ whole
put_more made put more before after whole kept puts gives =
    ap (λ bytes. bytes ++ after) puts ∙ append_assoc made put after ∙ ap (λ bytes. made ++ bytes) (sym gives) ∙ kept
