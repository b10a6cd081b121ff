-- A number that is put into a list, before another or at the end.
use Rattle.std.proofs.Common.{◌≡◌, ◌≢◌, ℕ, zero, suc, false, true, List, [], ◌∷◌, ◌++◌, Option, Some, None, refl, sym, ap, arith}
use Rattle.std.specs.Prelude.{slice_get, is_some}
use Rattle.std.specs.List.{insert}
use Rattle.std.specs.Option.{IfSome}
use Rattle.std.proofs.lemmas.Bool.Decides.{nat_tests}
use Rattle.node_trees.specs.Paths.{is_among}
use Rattle.tree_laws.specs.Numbers.{insert_number}
use Rattle.tree_laws.proofs.Counts.{AreApart, count-among}

-- at the end

pub insert-last : (n : ℕ) (xs : List ℕ) → insert_number None n xs ≡ xs ++ n ∷ []
insert-last n [] = refl
insert-last n (x ∷ xs) = ap (λ v. x ∷ v) (insert-last n xs)

pub insert-absent : (s n : ℕ) (xs : List ℕ) → is_among s xs ≡ false → insert_number (Some s) n xs ≡ xs ++ n ∷ []
insert-absent s n [] out = refl
insert-absent s n (x ∷ xs) out = grind (arith, nat_tests, insert-absent s n xs)

-- before the place where the other stands

got-among : (s p : ℕ) (xs : List ℕ) → slice_get xs p ≡ Some s → is_among s xs ≡ true
got-among s p [] e = absurd cc
got-among s zero (x ∷ xs) e = let same : x ≡ s = cc in grind (arith, nat_tests)
got-among s (suc p) (x ∷ xs) e = grind (arith, nat_tests, got-among s p xs e)

pub insert-before : (s n p : ℕ) (xs : List ℕ) → AreApart xs → slice_get xs p ≡ Some s → insert xs p n ≡ insert_number (Some s) n xs
insert-before s n p [] apart e = absurd cc
insert-before s n zero (x ∷ xs) apart e = let same : x ≡ s = cc in grind (arith, nat_tests)
insert-before s n (suc p) (x ∷ xs) apart e =
    let later = count-among s xs (got-among s p xs e) in
    let one = apart s in
    let on = insert-before s n p xs (λ i. omega (arith, apart i)) e in
    let other : x ≢ s = λ same. absurd (grind (arith, nat_tests)) in
    grind (arith, nat_tests, on)

-- where a place says whether it is there
pub placed-among : (n : ℕ) (xs : List ℕ) (o : Option ℕ) → IfSome o (λ p. slice_get xs p ≡ Some n) → (o ≡ None → is_among n xs ≡ false)
    → is_some o ≡ is_among n xs
placed-among n xs None here none = sym (none refl)
placed-among n xs (Some p) here none = sym (got-among n p xs here)
