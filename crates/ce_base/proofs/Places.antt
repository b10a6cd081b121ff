-- Members of lists by their places.
use Rattle.std.proofs.Common.{◌≡◌, ◌≢◌, ℕ, zero, suc, ◌<◌, Bool, true, false, List, [], ◌∷◌, ◌++◌, length, Some, None, refl, ap, subst, arith}
use Rattle.std.specs.Prelude.{slice_get, slice_set, ◌==◌}
use Rattle.std.proofs.lemmas.Bool.{eqb-true}

-- a member that is put in is found there
pub set_within : {A : Type 0} (xs : List A) (i : ℕ) (y : A) → i < length xs → slice_get (slice_set xs i y) i ≡ Some y
set_within [] i y within = absurd (omega (arith, within))
set_within (x ∷ xs) zero y within = refl
set_within (x ∷ xs) (suc i) y within = set_within xs i y (omega (arith, within))

-- the same where another one was found
pub set_found : {A : Type 0} (xs : List A) (i : ℕ) (x y : A) → slice_get xs i ≡ Some x → slice_get (slice_set xs i y) i ≡ Some y
set_found [] i x y at = absurd (let e : None ≡ Some x = at in cc)
set_found (z ∷ xs) zero x y at = refl
set_found (z ∷ xs) (suc i) x y at = set_found xs i x y at

-- the other members stay
pub set_other : {A : Type 0} (xs : List A) (i j : ℕ) (y : A) → i ≢ j → slice_get (slice_set xs i y) j ≡ slice_get xs j
set_other [] i j y other = refl
set_other (x ∷ xs) zero zero y other = absurd (other refl)
set_other (x ∷ xs) zero (suc j) y other = refl
set_other (x ∷ xs) (suc i) zero y other = refl
set_other (x ∷ xs) (suc i) (suc j) y other = set_other xs i j y (λ e. other (ap suc e))

-- and where more is appended
pub slice_get-append_front : {A : Type 0} (xs ys : List A) (i : ℕ) → i < length xs → slice_get (xs ++ ys) i ≡ slice_get xs i
slice_get-append_front [] ys i within = absurd (omega (arith, within))
slice_get-append_front (x ∷ xs) ys zero within = refl
slice_get-append_front (x ∷ xs) ys (suc i) within = slice_get-append_front xs ys i (omega (arith, within))

-- what is appended last is found behind all others
pub slice_get-append_last : {A : Type 0} (xs : List A) (x : A) → slice_get (xs ++ x ∷ []) (length xs) ≡ Some x
slice_get-append_last [] x = refl
slice_get-append_last (y ∷ xs) x = slice_get-append_last xs x

-- a claim of each number, from the one at hand and from the others
pub each_number : (P : ℕ → Type 0) (n : ℕ) → P n → ((m : ℕ) → n == m ≡ false → P m) → (m : ℕ) → P m
each_number P n here others m = go (n == m) refl
  where
    go : (b : Bool) → n == m ≡ b → P m
    go true same = subst P (eqb-true n m same) here
    go false other = others m other
