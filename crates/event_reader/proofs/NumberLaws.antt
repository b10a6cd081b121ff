-- A number in decimal is read again.
use Rattle.std.proofs.Common.{◌≡◌, ℕ, ◌+◌, ◌-◌, ◌*◌, ◌/◌, ◌%◌, ◌^◌, ◌<◌, ◌≤◌, true, false, List, [], ◌∷◌, ◌++◌, refl, sym, ap, ◌∙◌, append_assoc, arith, nat_lt}
use Rattle.std.specs.Char.{is_ascii_digit}
use Rattle.std.specs.Fmt.{decimal}
use Rattle.std.specs.List.{list_all}
use Rattle.std.proofs.lemmas.Bool.{lt-ltb}
use Rattle.std.proofs.lemmas.Bool.Decides.{nat_tests}
use Rattle.std.proofs.lemmas.Fmt.{decimal_by_steps}
use Rattle.std.proofs.lemmas.List.{append-nil}
use Rattle.std.proofs.lemmas.List.Folds.{list_all-append}
use Rattle.rule_tokens.specs.Spaced.{is_bare_byte, is_comment}
use Rattle.event_reader.specs.Parts.{begins_number, number_from, number_in}

digit_is : (d : ℕ) → d < 10 → is_ascii_digit (48 + d) ≡ true
digit_is d small = grind (arith, nat_tests)

-- one digit more
digit_step : (n d : ℕ) (rest : List ℕ) → d < 10 → n * 10 + d < 2 ^ 64 → number_from n ((48 + d) ∷ rest) ≡ number_from (n * 10 + d) rest
unfolding number_from
digit_step n d rest small fits =
    let same : (48 + d) - 48 ≡ d = omega arith in
    let test : nat_lt (n * 10 + d) (2 ^ 64) ≡ true = lt-ltb (n * 10 + d) (2 ^ 64) fits in
    rw (digit_is d small, same, test) refl

-- with these digits in front the number is n so far
abbrev ReadsOn : ℕ → List ℕ → Type 0
ReadsOn n ds = n < 2 ^ 64 → (rest : List ℕ) → number_from 0 (ds ++ rest) ≡ number_from n rest

one_digit : (n : ℕ) → n < 10 → ReadsOn n ((48 + n) ∷ [])
one_digit n small fits rest = digit_step 0 n rest small (omega arith) ∙ ap (λ (m : ℕ). number_from m rest) (omega arith)

more_digits : (n : ℕ) (ds : List ℕ) → 10 ≤ n → ReadsOn (n / 10) ds → ReadsOn n (ds ++ ((48 + n % 10) ∷ []))
more_digits n ds high before fits rest =
    let back : n / 10 * 10 + n % 10 ≡ n = omega arith in
    let digit : n % 10 < 10 = omega arith in
    ap (λ (l : List ℕ). number_from 0 l) (append_assoc ds ((48 + n % 10) ∷ []) rest)
    ∙ (before (omega arith) ((48 + n % 10) ∷ rest)
    ∙ (digit_step (n / 10) (n % 10) rest digit (omega arith) ∙ ap (λ (m : ℕ). number_from m rest) back))

reads_on : (n : ℕ) → n < 2 ^ 64 → (rest : List ℕ) → number_from 0 (decimal n ++ rest) ≡ number_from n rest
reads_on n fits rest = decimal_by_steps ReadsOn one_digit more_digits n fits fits rest

pub number_back : (n : ℕ) → n < 2 ^ 64 → number_in (decimal n) ≡ n
unfolding number_from
number_back n fits = ap (λ (l : List ℕ). number_from 0 l) (sym (append-nil (decimal n))) ∙ reads_on n fits []

-- 58 is a colon
pub line_back : (n : ℕ) → n < 2 ^ 64 → number_in (decimal n ++ 58 ∷ []) ≡ n
unfolding number_from
line_back n fits = reads_on n fits (58 ∷ [])

-- ---- what can stand in a bare token

abbrev IsBareText : List ℕ → Type 0
IsBareText bs = list_all is_bare_byte bs ≡ true

bare_digit : (d : ℕ) → d < 10 → is_bare_byte (48 + d) ≡ true
bare_digit d small = grind (arith, nat_tests)

bare_one : (n : ℕ) → n < 10 → IsBareText ((48 + n) ∷ [])
bare_one n small = rw (bare_digit n small) refl

bare_more : (n : ℕ) (ds : List ℕ) → 10 ≤ n → IsBareText ds → IsBareText (ds ++ ((48 + n % 10) ∷ []))
bare_more n ds high before =
    let digit : n % 10 < 10 = omega arith in
    rw (list_all-append is_bare_byte ds ((48 + n % 10) ∷ []), before, bare_digit (n % 10) digit) refl

pub number_bare : (n : ℕ) → n < 2 ^ 64 → list_all is_bare_byte (decimal n) ≡ true
number_bare n fits = decimal_by_steps (λ (m : ℕ) (ds : List ℕ). IsBareText ds) bare_one bare_more n fits

-- ---- how it begins

-- it begins with a digit, whatever follows, and so with no sign of a comment
abbrev BeginsWell : List ℕ → Type 0
BeginsWell ds = (rest : List ℕ) → (begins_number (ds ++ rest) ≡ true) × (is_comment (ds ++ rest) ≡ false)

no_comment : (d : ℕ) → d < 10 → is_comment ((48 + d) ∷ []) ≡ false
no_comment d small = grind (arith, nat_tests)

begins_one : (n : ℕ) → n < 10 → BeginsWell ((48 + n) ∷ [])
begins_one n small rest = (digit_is n small, no_comment n small)

begins_more : (n : ℕ) (ds : List ℕ) → 10 ≤ n → BeginsWell ds → BeginsWell (ds ++ ((48 + n % 10) ∷ []))
begins_more n ds high before rest = rw (append_assoc ds ((48 + n % 10) ∷ []) rest) (before ((48 + n % 10) ∷ rest))

pub number_begins : (n : ℕ) → n < 2 ^ 64 → (rest : List ℕ) → (begins_number (decimal n ++ rest) ≡ true) × (is_comment (decimal n ++ rest) ≡ false)
number_begins n fits rest = decimal_by_steps (λ (m : ℕ) (ds : List ℕ). BeginsWell ds) begins_one begins_more n fits rest
