-- The bytes of the characters of a text, and what is made of a text byte by byte.
use Rattle.std.proofs.Common.{◌≡◌, ◌<◌, ◌≤◌, ◌⊎◌, ℕ, Bool, true, false, List, [], ◌∷◌, ◌++◌, refl, sym, ap, ◌∙◌, subst, inl, inr, All, append-nil, arith}
use Rattle.std.specs.Prelude.{IsUtf8, nat_lt}
use Rattle.std.specs.List.{AllByRecursion}
use Rattle.std.proofs.Math.Utf8.{scalar, scalars, scalar_cases, encode, encodes}
use Rattle.std.proofs.lemmas.Bool.{and_parts, cond_both, ltb-true, cases_lt}
use Rattle.std.proofs.lemmas.List.Elements.{All-nil, All-cons, All-append}
use Rattle.std.proofs.lemmas.Str.{IsUtf8-append, IsUtf8-nil, encode_ascii}

-- ---- characters

-- a byte of a character that is none of ASCII
abbrev IsHigh : ℕ → Type 0
IsHigh b = (128 ≤ b) × (b < 256)

abbrev AreHigh : List ℕ → Type 0
AreHigh [] = ⊥
AreHigh (b ∷ bytes) = IsHigh b × AllByRecursion IsHigh bytes

scalar_bound : (c : ℕ) → (c < 55296) ⊎ ((57344 ≤ c) × (c < 1114112)) → c < 1114112
scalar_bound c (inl low) = omega arith
scalar_bound c (inr high) = high.1

encode-high : (c : ℕ) → c < 1114112 → 128 ≤ c → AreHigh (encode c)
unfolding encode
encode-high c most least =
    cond_both (nat_lt c 128) _ _ AreHigh (λ e. absurd (omega (arith, ltb-true c 128 e)))
    (λ _. cond_both (nat_lt c 2048) _ _ AreHigh (λ e. let h = ltb-true c 2048 e in ((omega arith, omega arith), ((omega arith, omega arith), tt)))
    (λ _. cond_both (nat_lt c 65536) _ _ AreHigh
    (λ e. let h = ltb-true c 65536 e in ((omega arith, omega arith), ((omega arith, omega arith), ((omega arith, omega arith), tt))))
    (λ _. ((omega arith, omega arith), ((omega arith, omega arith), ((omega arith, omega arith), ((omega arith, omega arith), tt)))))))

-- a character is one byte of ASCII, or bytes that are none
encode_cases : (c : ℕ) → scalar c ≡ true → ((c < 128) × (encode c ≡ c ∷ [])) ⊎ AreHigh (encode c)
encode_cases c is = cases (cases_lt c 128)
  where
    cases : (c < 128) ⊎ (128 ≤ c) → ((c < 128) × (encode c ≡ c ∷ [])) ⊎ AreHigh (encode c)
    cases (inl low) = inl (low, encode_ascii c low)
    cases (inr high) = inr (encode-high c (scalar_bound c (scalar_cases c is)) high)

IsUtf8-character : (c : ℕ) → scalar c ≡ true → IsUtf8 (encode c)
IsUtf8-character c is = (c ∷ [], (rw is refl, append-nil (encode c)))

-- ---- bytes

abbrev pub AreBytes : List ℕ → Type 0
AreBytes bytes = All (λ b. b < 256) bytes

high_bytes : (bytes : List ℕ) → AllByRecursion IsHigh bytes → AreBytes bytes
high_bytes [] are = All-nil (λ b. b < 256)
high_bytes (b ∷ bytes) are = All-cons (λ b. b < 256) b bytes are.0.1 (high_bytes bytes are.1)

character_bytes : (bytes : List ℕ) → AreHigh bytes → AreBytes bytes
character_bytes [] are = absurd are
character_bytes (b ∷ bytes) are = high_bytes (b ∷ bytes) are

encoded_bytes : (c : ℕ) → ((c < 128) × (encode c ≡ c ∷ [])) ⊎ AreHigh (encode c) → AreBytes (encode c)
encoded_bytes c (inl low) = subst AreBytes (sym low.1) (All-cons (λ b. b < 256) c [] (omega arith) (All-nil (λ b. b < 256)))
encoded_bytes c (inr high) = character_bytes (encode c) high

all_bytes : (cs : List ℕ) → scalars cs ≡ true → AreBytes (encodes cs)
all_bytes [] are = All-nil (λ b. b < 256)
all_bytes (c ∷ cs) are =
    let both = and_parts _ _ are in
    All-append (λ b. b < 256) (encode c) (encodes cs) (encoded_bytes c (encode_cases c both.0)) (all_bytes cs both.1)

-- a text consists of bytes
pub bytes-IsUtf8 : (text : List ℕ) → IsUtf8 text → AreBytes text
bytes-IsUtf8 text (cs, is) = subst AreBytes is.1 (all_bytes cs is.0)

-- ---- what is made of a text

-- a byte that is none of ASCII stays, and one of ASCII gives a text; what a byte of ASCII gives may go by what stands before it
pub record GoesByCharacter (made : Bool → List ℕ → List ℕ) : Type 0 where
  pub none : (p : Bool) → made p [] ≡ []
  pub high : (p : Bool) (b : ℕ) (rest : List ℕ) → 128 ≤ b → made p (b ∷ rest) ≡ b ∷ made false rest
  pub low : (p : Bool) (b : ℕ) (rest : List ℕ) → b < 128 → (given : List ℕ) × (q : Bool) × IsUtf8 given × (made p (b ∷ rest) ≡ given ++ made q rest)

high_rest : (made : Bool → List ℕ → List ℕ) → GoesByCharacter made → (bytes rest : List ℕ) → AllByRecursion IsHigh bytes
    → made false (bytes ++ rest) ≡ bytes ++ made false rest
high_rest made goes [] rest are = refl
high_rest made goes (b ∷ bytes) rest are =
    goes.high false b (bytes ++ rest) are.0.0 ∙ ap (λ more. b ∷ more) (high_rest made goes bytes rest are.1)

high_first : (made : Bool → List ℕ → List ℕ) → GoesByCharacter made → (p : Bool) (bytes rest : List ℕ) → AreHigh bytes
    → made p (bytes ++ rest) ≡ bytes ++ made false rest
high_first made goes p [] rest are = absurd are
high_first made goes p (b ∷ bytes) rest are =
    goes.high p b (bytes ++ rest) are.0.0 ∙ ap (λ more. b ∷ more) (high_rest made goes bytes rest are.1)

made_character : (made : Bool → List ℕ → List ℕ) → GoesByCharacter made → (p : Bool) (c : ℕ) (cs : List ℕ) → scalar c ≡ true
    → ((q : Bool) → IsUtf8 (made q (encodes cs))) → ((c < 128) × (encode c ≡ c ∷ [])) ⊎ AreHigh (encode c) → IsUtf8 (made p (encode c ++ encodes cs))
made_character made goes p c cs is others (inl low) =
    let first = goes.low p c (encodes cs) low.0 in
    rw low.1 (subst IsUtf8 (sym first.3) (IsUtf8-append first.0 (made first.1 (encodes cs)) first.2 (others first.1)))
made_character made goes p c cs is others (inr high) =
    subst IsUtf8 (sym (high_first made goes p (encode c) (encodes cs) high))
    (IsUtf8-append (encode c) (made false (encodes cs)) (IsUtf8-character c is) (others false))

made_text : (made : Bool → List ℕ → List ℕ) → GoesByCharacter made → (cs : List ℕ) → scalars cs ≡ true → (p : Bool) → IsUtf8 (made p (encodes cs))
made_text made goes [] are p = subst IsUtf8 (sym (goes.none p)) IsUtf8-nil
made_text made goes (c ∷ cs) are p =
    let both = and_parts _ _ are in
    made_character made goes p c cs both.0 (made_text made goes cs both.1) (encode_cases c both.0)

-- what is made so of a text is a text
pub IsUtf8-made : (made : Bool → List ℕ → List ℕ) → GoesByCharacter made → (p : Bool) (text : List ℕ) → IsUtf8 text → IsUtf8 (made p text)
IsUtf8-made made goes p text (cs, is) = subst (λ bytes. IsUtf8 (made p bytes)) is.1 (made_text made goes cs is.0 p)
