-- What a test finds in a list is one of its members, and the first of those that pass; what holds of each member holds of all.
use Rattle.std.proofs.Common.{◌≡◌, All, ℕ, ◌==◌, Bool, true, false, cond, List, [], ◌∷◌, Some, refl, arith}
use Rattle.std.specs.Prelude.{filter, find, ◌||◌}
use Rattle.std.proofs.lemmas.Bool.Decides.{nat_tests}
use Rattle.std.proofs.lemmas.List.Elements.{All-nil, All-cons}
use Rattle.node_trees.specs.Paths.{is_among}
use Rattle.node_trees.specs.Spots.{first_of}

pub among-found : (p : ℕ → Bool) (xs : List ℕ) (k : ℕ) → find p xs ≡ Some k → is_among k xs ≡ true
among-found p [] k e = absurd cc
among-found p (x ∷ xs) k e = by_test (among-found p xs k) (p x) refl e
  where
    by_test : (find p xs ≡ Some k → is_among k xs ≡ true) → (b : Bool) → p x ≡ b → cond b (Some x) (find p xs) ≡ Some k → (x == k || is_among k xs) ≡ true
    by_test more true t i = let same : x ≡ k = cc in grind (arith, nat_tests)
    by_test more false t i = let yes = more i in grind (arith, nat_tests)

pub first-filtered : (p : ℕ → Bool) (xs : List ℕ) → find p xs ≡ first_of (filter p xs)
first-filtered p [] = refl
first-filtered p (x ∷ xs) = by_test (p x) (first-filtered p xs)
  where
    by_test : (b : Bool) → find p xs ≡ first_of (filter p xs) → cond b (Some x) (find p xs) ≡ first_of (cond b (x ∷ filter p xs) (filter p xs))
    by_test true later = refl
    by_test false later = later

pub all-members : (P : ℕ → Type 0) (xs : List ℕ) → ((n : ℕ) → is_among n xs ≡ true → P n) → All P xs
all-members P [] h = All-nil P
all-members P (x ∷ xs) h = All-cons P x xs (h x (grind (arith, nat_tests))) (all-members P xs (λ n e. h n (grind (arith, nat_tests))))
