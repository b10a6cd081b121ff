-- Tests that agree on the members of a list find the same in it.
use Rattle.std.proofs.Common.{◌≡◌, ℕ, Bool, true, false, cond, List, [], ◌∷◌, Some, refl, ap, ◌∙◌, arith}
use Rattle.std.specs.Prelude.{filter, ◌||◌}
use Rattle.std.specs.List.{find, list_any}
use Rattle.std.proofs.lemmas.Bool.Decides.{nat_tests}
use Rattle.node_trees.specs.Paths.{is_among}
use Rattle.tree_laws.specs.Numbers.{remove_number}

-- two tests, the same on each member
module _ (p q : ℕ → Bool) where
  abbrev pub AreSame : List ℕ → Type 0
  AreSame xs = (x : ℕ) → is_among x xs ≡ true → p x ≡ q x

  first_same : (x : ℕ) (xs : List ℕ) → AreSame (x ∷ xs) → p x ≡ q x
  first_same x xs same = same x (grind (arith, nat_tests))

  rest_same : (x : ℕ) (xs : List ℕ) → AreSame (x ∷ xs) → AreSame xs
  rest_same x xs same y h = same y (grind (arith, nat_tests))

  pub find-same : (xs : List ℕ) → AreSame xs → find p xs ≡ find q xs
  find-same [] same = refl
  find-same (x ∷ xs) same =
      ap (λ b. cond b (Some x) (find p xs)) (first_same x xs same) ∙ ap (λ v. cond (q x) (Some x) v) (find-same xs (rest_same x xs same))

  pub any-same : (xs : List ℕ) → AreSame xs → list_any p xs ≡ list_any q xs
  any-same [] same = refl
  any-same (x ∷ xs) same =
      ap (λ b. b || list_any p xs) (first_same x xs same) ∙ ap (λ v. q x || v) (any-same xs (rest_same x xs same))

-- what no member passes is found nowhere
pub filter-none : (p : ℕ → Bool) (xs : List ℕ) → ((x : ℕ) → is_among x xs ≡ true → p x ≡ false) → filter p xs ≡ []
filter-none p [] fails = refl
filter-none p (x ∷ xs) fails =
    let first : p x ≡ false = fails x (grind (arith, nat_tests)) in
    let more = filter-none p xs (λ y h. fails y (grind (arith, nat_tests))) in
    ap (λ b. cond b (x ∷ filter p xs) (filter p xs)) first ∙ more

-- a number that fails the test changes nothing of what it finds where it goes

module _ (p : ℕ → Bool) (n : ℕ) (fails : p n ≡ false) where
  pub find-removed : (xs : List ℕ) → find p (remove_number n xs) ≡ find p xs
  find-removed [] = refl
  find-removed (x ∷ xs) = grind (arith, nat_tests, fails, find-removed xs)
