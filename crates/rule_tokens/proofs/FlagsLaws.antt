-- The canonical text of validity flags is read as those flags.
use Rattle.std.proofs.Common.{◌≡◌, ◌≢◌, ℕ, Bool, true, false, cond, eqb, not, ◌&&◌, ◌||◌, List, [], ◌∷◌, ◌++◌, length, Some, None, refl, ap, ◌∙◌, arith}
use Rattle.std.specs.Prelude.{codes, if◌then◌else◌}
use Rattle.std.specs.List.{list_all, slice_split}
use Rattle.std.specs.Str.{bytes_eq}
use Rattle.std.proofs.Math.Bool.{or-false}
use Rattle.std.proofs.lemmas.Bool.{and_parts, not-true}
use Rattle.std.proofs.lemmas.Bool.Decides.{nat_tests}
use Rattle.std.proofs.lemmas.List.Folds.{list_all-append}
use Rattle.rule_tokens.specs.Flags.{flag_names, flags, is_comma, is_one_of, raised}
use Rattle.rule_tokens.specs.FlagsText.{names_after, names_joined, raised_names}
use Rattle.rule_tokens.specs.Laws.{FlagsAreBare, FlagsAreRead, FlagsAreTen}
use Rattle.rule_tokens.specs.Spaced.{is_bare_byte}

-- ---- names as bytes

-- a byte that may stand in a name
abbrev is_name_byte : ℕ → Bool
is_name_byte b = is_bare_byte b && not (is_comma b)

-- such bytes, and no first `n`, with which `none` begins
abbrev is_plain : List ℕ → Bool
is_plain [] = false
is_plain (b ∷ bs) = not (eqb b 110) && list_all is_name_byte (b ∷ bs)

no_comma : (b : ℕ) → is_name_byte b ≡ true → is_comma b ≡ false
no_comma b is = grind (arith, nat_tests)

all_name_bytes : (name : List ℕ) → is_plain name ≡ true → list_all is_name_byte name ≡ true
all_name_bytes [] is = absurd cc
all_name_bytes (b ∷ bs) is = (and_parts (not (eqb b 110)) (list_all is_name_byte (b ∷ bs)) is).1

-- a name, and what stands behind it, is not `none`
not_none : (name rest : List ℕ) → is_plain name ≡ true → bytes_eq (name ++ rest) (codes "none") ≡ false
not_none [] rest is = absurd cc
not_none (b ∷ bs) rest is = rw (not-true (eqb b 110) (and_parts (not (eqb b 110)) (list_all is_name_byte (b ∷ bs)) is).0) refl

some_bytes : (name rest : List ℕ) → is_plain name ≡ true → (name ++ rest) ≢ []
some_bytes [] rest is e = cc
some_bytes (b ∷ bs) rest is e = cc

-- ---- names between commas

cut_at_comma : (bs rest : List ℕ) → list_all is_name_byte bs ≡ true → slice_split is_comma (bs ++ 44 ∷ rest) ≡ bs ∷ slice_split is_comma rest
cut_at_comma [] rest are = refl
cut_at_comma (b ∷ bs) rest are =
    let both = and_parts (is_name_byte b) (list_all is_name_byte bs) are in
    rw (no_comma b both.0, cut_at_comma bs rest both.1) refl

cut_at_end : (bs : List ℕ) → list_all is_name_byte bs ≡ true → slice_split is_comma (bs ++ []) ≡ bs ∷ []
cut_at_end [] are = refl
cut_at_end (b ∷ bs) are =
    let both = and_parts (is_name_byte b) (list_all is_name_byte bs) are in
    rw (no_comma b both.0, cut_at_end bs both.1) refl

abbrev after_commas : List (List ℕ) → List ℕ
after_commas names = names_after (codes ",") names

abbrev joined_or_none : List (List ℕ) → List ℕ
joined_or_none names = names_joined (codes ",") (codes "none") names

names_back : (name : List ℕ) (names : List (List ℕ)) → is_plain name ≡ true → list_all is_plain names ≡ true
    → slice_split is_comma (name ++ after_commas names) ≡ name ∷ names
names_back name [] is are = cut_at_end name (all_name_bytes name is)
names_back name (other ∷ names) is are =
    let both = and_parts (is_plain other) (list_all is_plain names) are in
    cut_at_comma name (other ++ after_commas names) (all_name_bytes name is) ∙ ap (λ (l : List (List ℕ)). name ∷ l) (names_back other names both.0 both.1)

-- ---- the names that are raised

-- what passes a test at each name does so at those that are raised
pub all_raised : (test : List ℕ → Bool) (names : List (List ℕ)) (fs : List Bool) → list_all test names ≡ true → list_all test (raised_names names fs) ≡ true
all_raised test [] fs all = refl
all_raised test (name ∷ names) [] all = refl
all_raised test (name ∷ names) (true ∷ fs) all =
    let both = and_parts (test name) (list_all test names) all in
    rw both.0 (all_raised test names fs both.1)
all_raised test (name ∷ names) (false ∷ fs) all = all_raised test names fs (and_parts (test name) (list_all test names) all).1

-- a name is among those that are raised
abbrev is_raised : List (List ℕ) → List Bool → List ℕ → Bool
is_raised [] fs flag = false
is_raised (name ∷ names) [] flag = false
is_raised (name ∷ names) (f ∷ fs) flag = cond (bytes_eq flag name) (f || is_raised names fs flag) (is_raised names fs flag)

or_is : (test r : Bool) → (test || r) ≡ cond test true r
or_is true r = refl
or_is false r = refl

same_else : (test r : Bool) → r ≡ cond test r r
same_else true r = refl
same_else false r = refl

is_raised_name : (names : List (List ℕ)) (fs : List Bool) (flag : List ℕ) → is_one_of (raised_names names fs) flag ≡ is_raised names fs flag
is_raised_name [] fs flag = refl
is_raised_name (name ∷ names) [] flag = refl
is_raised_name (name ∷ names) (true ∷ fs) flag = rw (is_raised_name names fs flag) (or_is (bytes_eq flag name) (is_raised names fs flag))
is_raised_name (name ∷ names) (false ∷ fs) flag = is_raised_name names fs flag ∙ same_else (bytes_eq flag name) (is_raised names fs flag)

raised_ten : (a b c d e f g h i j : Bool)
    → raised (raised_names flag_names (a ∷ b ∷ c ∷ d ∷ e ∷ f ∷ g ∷ h ∷ i ∷ j ∷ [])) ≡ a ∷ b ∷ c ∷ d ∷ e ∷ f ∷ g ∷ h ∷ i ∷ j ∷ []
raised_ten a b c d e f g h i j = simp (is_raised_name, or-false)

pub raised_back : (fs : List Bool) → length fs ≡ 10 → raised (raised_names flag_names fs) ≡ fs
raised_back (a ∷ b ∷ c ∷ d ∷ e ∷ f ∷ g ∷ h ∷ i ∷ j ∷ []) is = raised_ten a b c d e f g h i j
raised_back fs is = absurd (omega arith)

-- ---- the text

names_plain : (fs : List Bool) → list_all is_plain (raised_names flag_names fs) ≡ true
names_plain fs = all_raised is_plain flag_names fs refl

names_known : (fs : List Bool) → list_all (is_one_of flag_names) (raised_names flag_names fs) ≡ true
names_known fs = all_raised (is_one_of flag_names) flag_names fs refl

-- ---- the laws

names_read : (names : List (List ℕ)) → list_all is_plain names ≡ true → list_all (is_one_of flag_names) names ≡ true
    → flags (record { quoted = false; text = joined_or_none names }) ≡ Some (raised names)
names_read [] plain known = refl
names_read (name ∷ names) plain known =
    let both = and_parts (is_plain name) (list_all is_plain names) plain in
    rw (not_none name (after_commas names) both.0, names_back name names both.0 both.1, known) refl

pub flags_read : FlagsAreRead
flags_read fs is = names_read (raised_names flag_names fs) (names_plain fs) (names_known fs) ∙ ap (λ (l : List Bool). Some l) (raised_back fs is)

bare_bytes : (bs : List ℕ) → list_all is_name_byte bs ≡ true → list_all is_bare_byte bs ≡ true
bare_bytes [] are = refl
bare_bytes (b ∷ bs) are =
    let both = and_parts (is_name_byte b) (list_all is_name_byte bs) are in
    rw (and_parts (is_bare_byte b) (not (is_comma b)) both.0).0 (bare_bytes bs both.1)

bare_before : (name rest : List ℕ) → is_plain name ≡ true → list_all is_bare_byte rest ≡ true → list_all is_bare_byte (name ++ rest) ≡ true
bare_before name rest is are = rw (list_all-append is_bare_byte name rest, bare_bytes name (all_name_bytes name is)) are

bare_commas : (names : List (List ℕ)) → list_all is_plain names ≡ true → list_all is_bare_byte (after_commas names) ≡ true
bare_commas [] are = refl
bare_commas (name ∷ names) are =
    let both = and_parts (is_plain name) (list_all is_plain names) are in
    bare_before name (after_commas names) both.0 (bare_commas names both.1)

names_bare : (names : List (List ℕ)) → list_all is_plain names ≡ true → (joined_or_none names ≢ []) × (list_all is_bare_byte (joined_or_none names) ≡ true)
names_bare [] are = ((λ e. cc), refl)
names_bare (name ∷ names) are =
    let both = and_parts (is_plain name) (list_all is_plain names) are in
    (some_bytes name (after_commas names) both.0, bare_before name (after_commas names) both.0 (bare_commas names both.1))

pub flags_bare : FlagsAreBare
flags_bare fs is = names_bare (raised_names flag_names fs) (names_plain fs)

ten_by : (quoted none known : Bool) (x y fs : List Bool) → length x ≡ 10 → length y ≡ 10
    → (if quoted then None else (if none then Some x else (if known then Some y else None))) ≡ Some fs → length fs ≡ 10
ten_by true none known x y fs one other e = absurd cc
ten_by false true known x y fs one other e = cc
ten_by false false true x y fs one other e = cc
ten_by false false false x y fs one other e = absurd cc

pub flags_ten : FlagsAreTen
flags_ten t fs e =
    let named = slice_split is_comma t.text in
    ten_by t.quoted (bytes_eq t.text (codes "none")) (list_all (is_one_of flag_names) named) (raised []) (raised named) fs refl refl e
