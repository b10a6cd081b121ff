-- What is left of a list that is walked from one number to the next.
use Rattle.std.proofs.Common.{◌≡◌, ◌≢◌, ◌==◌, ℕ, Bool, true, false, cond, List, [], ◌∷◌, Option, Some, None, refl, ap, sym, ◌∙◌, arith}
use Rattle.std.specs.Prelude.{if◌then◌else◌}
use Rattle.std.proofs.lemmas.Bool.Decides.{nat_tests}
use Rattle.node_trees.specs.Paths.{is_among}
use Rattle.node_trees.specs.Spots.{after, first_of}
use Rattle.tree_laws.proofs.Counts.{AreApart, count-among}
use Rattle.tree_laws.proofs.Children.{after-among}

-- a list from a number of it on
abbrev pub left_from : Option ℕ → List ℕ → List ℕ
left_from None xs = []
left_from (Some n) [] = []
left_from (Some n) (x ∷ xs) = if x == n then x ∷ xs else left_from (Some n) xs

abbrev pub IsAmongOrNone : List ℕ → Option ℕ → Type 0
IsAmongOrNone xs None = Unit {0}
IsAmongOrNone xs (Some n) = is_among n xs ≡ true

pub among-first : (xs : List ℕ) (next : Option ℕ) → next ≡ first_of xs → IsAmongOrNone xs next
among-first xs None e = tt
among-first [] (Some n) e = absurd cc
among-first (x ∷ xs) (Some n) e = let same : x ≡ n = cc in grind (arith, nat_tests)

pub among-next : (xs : List ℕ) (n : ℕ) (next : Option ℕ) → next ≡ after n xs → IsAmongOrNone xs next
among-next xs n None e = tt
among-next xs n (Some d) e = after-among n d xs (sym e)

-- from its first number on it is whole
pub left-whole : (xs : List ℕ) (next : Option ℕ) → next ≡ first_of xs → left_from next xs ≡ xs
left-whole [] None e = refl
left-whole [] (Some n) e = absurd cc
left-whole (x ∷ xs) None e = absurd cc
left-whole (x ∷ xs) (Some n) e = let same : x ≡ n = cc in grind (arith, nat_tests)

-- numbers that stand behind another one are left without it
left-behind : (x : ℕ) (xs : List ℕ) (next : Option ℕ) → AreApart (x ∷ xs) → IsAmongOrNone xs next → left_from next (x ∷ xs) ≡ left_from next xs
left-behind x xs None apart among = refl
left-behind x xs (Some n) apart among =
    let other : x ≢ n = λ e. let one = apart n in let low = count-among n xs among in absurd (grind (arith, nat_tests)) in
    grind (arith, nat_tests)

-- one step
pub left-next : (xs : List ℕ) (n : ℕ) (next : Option ℕ) → AreApart xs → is_among n xs ≡ true → next ≡ after n xs → left_from (Some n) xs ≡ n ∷ left_from next xs
left-next [] n next apart among e = absurd cc
left-next (x ∷ xs) n next apart among e = by_test (left-next xs n next (λ i. omega (arith, apart i))) (x == n) refl e
  where
    by_test : (is_among n xs ≡ true → next ≡ after n xs → left_from (Some n) xs ≡ n ∷ left_from next xs) →
        (b : Bool) → (x == n) ≡ b → next ≡ cond b (first_of xs) (after n xs) → cond b (x ∷ xs) (left_from (Some n) xs) ≡ n ∷ left_from next (x ∷ xs)
    by_test later true t is =
        let same : x ≡ n = grind (arith, nat_tests) in
        let on = left-behind x xs next apart (among-first xs next is) ∙ left-whole xs next is in
        rw (on, same) refl
    by_test later false t is =
        later (grind (arith, nat_tests)) is
        ∙ ap (λ v. n ∷ v) (sym (left-behind x xs next apart (among-next xs n next is)))
