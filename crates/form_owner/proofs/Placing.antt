-- A number that is put into a list at its place.
use Rattle.std.proofs.Common.{◌≡◌, ◌≢◌, ℕ, ◌==◌, Bool, true, false, cond, List, [], ◌∷◌, Option, Some, None, refl, sym, ap, ◌∙◌, arith, inl, inr}
use Rattle.std.specs.Prelude.{filter, find, ◌||◌}
use Rattle.std.proofs.lemmas.Bool.{cases_eq}
use Rattle.std.proofs.lemmas.Bool.Decides.{nat_tests}
use Rattle.node_trees.specs.Trees.{is_number}
use Rattle.node_trees.specs.Paths.{is_among}
use Rattle.tree_laws.specs.Numbers.{insert_number}
use Rattle.tree_laws.proofs.Counts.{AreApart, count-among, count-absent}
use Rattle.tree_laws.proofs.Members.{among-found}
use Rattle.form_owner.specs.Groups.{all_after}

-- what follows a number of a list is of the list
pub after-in : (n k : ℕ) (xs : List ℕ) → is_among k (all_after n xs) ≡ true → is_among k xs ≡ true
after-in n k [] h = absurd cc
after-in n k (x ∷ xs) h = by_test (after-in n k xs) (x == n) h
  where
    by_test : (is_among k (all_after n xs) ≡ true → is_among k xs ≡ true) → (b : Bool) → is_among k (cond b xs (all_after n xs)) ≡ true
        → (x == k || is_among k xs) ≡ true
    by_test more true h = grind (arith, nat_tests)
    by_test more false h = let rest = more h in grind (arith, nat_tests)

-- the numbers of a list that pass, with one more

module _ (q : ℕ → Bool) (n : ℕ) where
  abbrev pub or_one : ℕ → Bool
  or_one m = q m || m == n

  -- behind it
  only : (xs : List ℕ) → is_among n xs ≡ false → filter or_one xs ≡ filter q xs
  only [] out = refl
  only (x ∷ xs) out = by_test (only xs (grind (arith, nat_tests))) (q x) (grind (arith, nat_tests))
    where
      by_test : filter or_one xs ≡ filter q xs → (b : Bool) → (x == n) ≡ false
          → cond (b || x == n) (x ∷ filter or_one xs) (filter or_one xs) ≡ cond b (x ∷ filter q xs) (filter q xs)
      by_test more true other = ap (λ v. x ∷ v) more
      by_test more false other = ap (λ c. cond c (x ∷ filter or_one xs) (filter or_one xs)) other ∙ more

  -- put before the first that passes, it stands first
  at_first : (xs : List ℕ) → insert_number (find q xs) n (filter q xs) ≡ n ∷ filter q xs
  at_first [] = refl
  at_first (x ∷ xs) = by_test (at_first xs) (q x)
    where
      by_test : insert_number (find q xs) n (filter q xs) ≡ n ∷ filter q xs → (b : Bool)
          → insert_number (cond b (Some x) (find q xs)) n (cond b (x ∷ filter q xs) (filter q xs)) ≡ n ∷ cond b (x ∷ filter q xs) (filter q xs)
      by_test more true = let same : is_number (Some x) x ≡ true =
          grind (arith, nat_tests) in ap (λ b. cond b (n ∷ x ∷ filter q xs) (x ∷ insert_number (Some x) n (filter q xs))) same
      by_test more false = more

  past : (o : Option ℕ) (x : ℕ) → (o ≡ Some x → ⊥) → is_number o x ≡ false
  past None x other = refl
  past (Some s) x other = let apart : s ≢ x = λ e. other (ap Some e) in grind (arith, nat_tests)

  -- put before the first that passes behind it, it stands in its place
  pub at_its_place : (xs : List ℕ) → AreApart xs → is_among n xs ≡ true → q n ≡ false
      → insert_number (find q (all_after n xs)) n (filter q xs) ≡ filter or_one xs
  at_its_place [] apart among fails = absurd cc
  at_its_place (x ∷ xs) apart among fails = elim (cases_eq x n) [
    | inl e ↦ here e
    | inr ne ↦ later ne (at_its_place xs (λ i. omega (arith, apart i)) (grind (arith, nat_tests)) fails) (q x) refl
  ]
    where
      here : x ≡ n → insert_number (find q (all_after n (x ∷ xs))) n (filter q (x ∷ xs)) ≡ filter or_one (x ∷ xs)
      here e =
          let is : (x == n) ≡ true = grind (arith, nat_tests) in
          let not_x : q x ≡ false = ap q e ∙ fails in
          let one = apart n in
          let out : is_among n xs ≡ false = count-absent n xs (grind (arith, nat_tests)) in
          ap (λ b. insert_number (find q (cond b xs (all_after n xs))) n (filter q (x ∷ xs))) is
          ∙ ap (λ b. insert_number (find q xs) n (cond b (x ∷ filter q xs) (filter q xs))) not_x
          ∙ at_first xs
          ∙ ap (λ v. v ∷ filter q xs) (sym e)
          ∙ ap (λ v. x ∷ v) (sym (only xs out))
          ∙ sym (ap (λ b. cond (q x || b) (x ∷ filter or_one xs) (filter or_one xs)) is
          ∙ ap (λ b. cond (b || true) (x ∷ filter or_one xs) (filter or_one xs)) not_x)

      by_test : (b : Bool) → is_number (find q (all_after n xs)) x ≡ false → insert_number (find q (all_after n xs)) n (filter q xs) ≡ filter or_one xs →
          insert_number (find q (all_after n xs)) n (cond b (x ∷ filter q xs) (filter q xs)) ≡ cond (b || false) (x ∷ filter or_one xs) (filter or_one xs)
      by_test true apart_from on = ap (λ c. cond c (n ∷ x ∷ filter q xs) (x ∷ insert_number (find q (all_after n xs)) n (filter q xs))) apart_from
          ∙ ap (λ v. x ∷ v) on
      by_test false apart_from on = on

      later : x ≢ n → insert_number (find q (all_after n xs)) n (filter q xs) ≡ filter or_one xs → (b : Bool) → q x ≡ b
          → insert_number (find q (all_after n (x ∷ xs))) n (cond (q x) (x ∷ filter q xs) (filter q xs))
          ≡ cond (q x || x == n) (x ∷ filter or_one xs) (filter or_one xs)
      later ne on b is =
          let other : (x == n) ≡ false = grind (arith, nat_tests) in
          let once = apart x in
          let away : find q (all_after n xs) ≡ Some x → ⊥ = λ e. let low =
          count-among x xs (after-in n x xs (among-found q (all_after n xs) x e)) in absurd (grind (arith, nat_tests)) in
          ap (λ c. insert_number (find q (cond c xs (all_after n xs))) n (cond (q x) (x ∷ filter q xs) (filter q xs))) other
          ∙ ap (λ c. insert_number (find q (all_after n xs)) n (cond c (x ∷ filter q xs) (filter q xs))) is
          ∙ by_test b (past (find q (all_after n xs)) x away) on
          ∙ sym (ap (λ c. cond (q x || c) (x ∷ filter or_one xs) (filter or_one xs)) other
          ∙ ap (λ c. cond (c || false) (x ∷ filter or_one xs) (filter or_one xs)) is)
