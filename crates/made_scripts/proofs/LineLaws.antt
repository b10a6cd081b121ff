-- That the lines of a made script are lines, and that lines are cut back out of their text.
use Rattle.std.proofs.Common.{◌≡◌, ◌≢◌, ◌≤◌, ◌<◌, ℕ, zero, suc, ◌+◌, ◌%◌, ◌^◌, Bool, true, not, ◌&&◌, ◌==◌, List, [], ◌∷◌, ◌++◌, length, refl, sym, ap, ◌∙◌}
use Rattle.std.proofs.Common.{append_assoc, arith, All}
use Rattle.std.specs.Prelude.{codes, nat_le}
use Rattle.std.specs.Fmt.{decimal}
use Rattle.std.specs.List.{list_all, AllByRecursion}
use Rattle.std.proofs.lemmas.Bool.Decides.{nat_tests}
use Rattle.std.proofs.lemmas.Fmt.{decimal_by_steps, length-decimal-le}
use Rattle.std.proofs.lemmas.List.{length-append}
use Rattle.std.proofs.lemmas.List.Elements.{All-nil, All-cons, All-append, All-from_recursion, recursion_from_All}
use Rattle.std.proofs.lemmas.List.Sums.{AllPass-from_list_all}
use Rattle.made_scripts.specs.Made.{first_lines, element_lines, elements_from, submit_line, made_lines, joined, made_script}
use Rattle.made_scripts.specs.Laws.{IsClean, HasNoLineFeed, IsCutBack, IsShort}

-- a line has no line feed in it, and is no longer than it may be
record IsLine (line : List ℕ) : Type 0 where
  clean : IsClean line
  short : length line ≤ 4096

-- as tests: that it has no line feed, and that it is a line
abbrev is_clean : List ℕ → Bool
is_clean line = list_all (λ b. not (b == 10)) line

abbrev is_line : List ℕ → Bool
is_line line = is_clean line && nat_le (length line) 4096

no_feed : (b : ℕ) → not (b == 10) ≡ true → b ≢ 10
no_feed b is = grind (arith, nat_tests)

clean_from_test : (line : List ℕ) → is_clean line ≡ true → IsClean line
clean_from_test line is = λ k d within. no_feed _ (AllPass-from_list_all (λ b. not (b == 10)) line is k d within)

test_clean : (line : List ℕ) → is_line line ≡ true → is_clean line ≡ true
test_clean line is = grind (arith, nat_tests)

test_short : (line : List ℕ) → is_line line ≡ true → length line ≤ 4096
test_short line is = grind (arith, nat_tests)

line_from_test : (line : List ℕ) → is_line line ≡ true → IsLine line
line_from_test line is = record { clean = clean_from_test line (test_clean line is); short = test_short line is }

lines_from_test : (lines : List (List ℕ)) → list_all is_line lines ≡ true → All IsLine lines
lines_from_test lines is = λ k d within. line_from_test _ (AllPass-from_list_all is_line lines is k d within)

-- a number is written without line feeds
digit_clean : (n : ℕ) → IsClean ((48 + n) ∷ [])
digit_clean n = All-cons (λ b. b ≢ 10) (48 + n) [] (λ is. omega (arith, is)) (All-nil (λ b. b ≢ 10))

decimal_clean : (n : ℕ) → n < 2 ^ 64 → IsClean (decimal n)
decimal_clean n small = decimal_by_steps (λ _ ds. IsClean ds) (λ m few. digit_clean m)
    (λ m ds many clean. All-append (λ b. b ≢ 10) ds _ clean (digit_clean (m % 10))) n small

first_fit : All IsLine first_lines
unfolding first_lines
first_fit = lines_from_test first_lines refl

submit_fit : IsLine submit_line
unfolding submit_line
submit_fit = line_from_test submit_line refl

number_fit : (n : ℕ) → n < 2 ^ 32 → IsLine (codes "setattr $e k " ++ decimal n)
number_fit n small = record {
  clean = All-append (λ b. b ≢ 10) (codes "setattr $e k ") (decimal n) (clean_from_test (codes "setattr $e k ") refl) (decimal_clean n (omega (arith, small)));
  short = omega (arith, length-append (codes "setattr $e k ") (decimal n), length-decimal-le 10 n (omega arith) (omega (arith, small)) (omega (arith, small)));
}

element_fit : (n : ℕ) → n < 2 ^ 32 → All IsLine (element_lines n)
unfolding element_lines
element_fit n small = All-from_recursion IsLine (element_lines n) (
  line_from_test (codes "create $e x-a") refl,
  (line_from_test (codes "setattr $e name n") refl, (number_fit n small, (line_from_test (codes "append $f $e") refl, tt))),
)

elements_fit : (number count : ℕ) → number + count ≤ 2 ^ 32 → All IsLine (elements_from number count)
elements_fit number zero small = All-nil IsLine
elements_fit number (suc count) small =
    All-append IsLine (element_lines number) (elements_from (number + 1) count) (element_fit number (omega (arith, small)))
    (elements_fit (number + 1) count (omega (arith, small)))

made_fit : (n : ℕ) → n < 2 ^ 32 → All IsLine (made_lines n)
unfolding made_lines
made_fit n small =
    All-append IsLine (first_lines ++ elements_from 1 n) (submit_line ∷ [])
    (All-append IsLine first_lines (elements_from 1 n) first_fit (elements_fit 1 n (omega (arith, small))))
    (All-cons IsLine submit_line [] submit_fit (All-nil IsLine))

pub no_line_feed : HasNoLineFeed
no_line_feed n small = λ k d within. (made_fit n small k d within).clean

pub lines_short : IsShort
lines_short n small = λ k d within. (made_fit n small k d within).short

-- no line feed is among the bytes, by recursion
abbrev NoFeed : List ℕ → Type 0
NoFeed = AllByRecursion (λ b. b ≢ 10)

-- a text is cut at its first line feed in one way only
cut_first : (a b x y : List ℕ) → NoFeed a → NoFeed b → a ++ 10 ∷ x ≡ b ++ 10 ∷ y → (a ≡ b) × (x ≡ y)
cut_first [] [] x y ca cb same = (refl, cc)
cut_first [] (e ∷ b) x y ca cb same = absurd (cb.0 (cc))
cut_first (d ∷ a) [] x y ca cb same = absurd (ca.0 (cc))
cut_first (d ∷ a) (e ∷ b) x y ca cb same =
    let head : d ≡ e = cc in
    let tail : a ++ 10 ∷ x ≡ b ++ 10 ∷ y = cc in
    let cut = cut_first a b x y ca.1 cb.1 tail in
    (cc (head, cut.0), cut.1)

pub joined_first : (line : List ℕ) (lines : List (List ℕ)) → joined (line ∷ lines) ≡ line ++ 10 ∷ joined lines
unfolding joined
joined_first line lines = append_assoc line (10 ∷ []) (joined lines)

pub joined_none : joined [] ≡ []
unfolding joined
joined_none = refl

-- a line goes from the front of what is left to the end of what there is
pub joined_more : (text line : List ℕ) (lines : List (List ℕ)) → text ++ line ++ 10 ∷ [] ++ joined lines ≡ text ++ joined (line ∷ lines)
joined_more text line lines =
    append_assoc (text ++ line) (10 ∷ []) (joined lines) ∙ (append_assoc text line (10 ∷ joined lines) ∙ ap (λ l. text ++ l) (sym (joined_first line lines)))

some_text : (line : List ℕ) (rest : List ℕ) → line ++ 10 ∷ rest ≡ [] → ⊥
some_text [] rest none = cc
some_text (b ∷ line) rest none = cc

cut_all : (xs ys : List (List ℕ)) → AllByRecursion IsClean xs → AllByRecursion IsClean ys → joined xs ≡ joined ys → xs ≡ ys
cut_all [] [] ca cb same = refl
cut_all [] (b ∷ ys) ca cb same = absurd (some_text b (joined ys) (sym (joined_first b ys) ∙ (sym same ∙ joined_none)))
cut_all (a ∷ xs) [] ca cb same = absurd (some_text a (joined xs) (sym (joined_first a xs) ∙ (same ∙ joined_none)))
cut_all (a ∷ xs) (b ∷ ys) ca cb same =
    let split : a ++ 10 ∷ joined xs ≡ b ++ 10 ∷ joined ys = sym (joined_first a xs) ∙ (same ∙ joined_first b ys) in
    let cut = cut_first a b (joined xs) (joined ys) (recursion_from_All (λ c. c ≢ 10) a ca.0) (recursion_from_All (λ c. c ≢ 10) b cb.0) split in
    let rest : xs ≡ ys = cut_all xs ys ca.1 cb.1 cut.1 in
    cc (cut.0, rest)

pub cut_back : IsCutBack
unfolding made_script
cut_back n lines small clean same =
    cut_all lines (made_lines n) (recursion_from_All IsClean lines clean) (recursion_from_All IsClean (made_lines n) (no_line_feed n small)) same
