-- What holds of each member of a list.
use Rattle.std.proofs.Common.{◌≡◌, ℕ, zero, suc, List, [], ◌∷◌, ◌++◌, Some, None, subst}
use Rattle.std.specs.List.{AllByRecursion as Each}
use Rattle.std.specs.Prelude.{slice_get, slice_set}

pub each_map : {A : Type 0} (P Q : A → Type 0) (xs : List A) → ((x : A) → P x → Q x) → Each P xs → Each Q xs
each_map P Q [] f all = tt
each_map P Q (x ∷ xs) f all = (f x all.0, each_map P Q xs f all.1)

pub each_append : {A : Type 0} (P : A → Type 0) (xs ys : List A) → Each P xs → Each P ys → Each P (xs ++ ys)
each_append P [] ys h k = k
each_append P (x ∷ xs) ys h k = (h.0, each_append P xs ys h.1 k)

pub each_set : {A : Type 0} (P : A → Type 0) (xs : List A) (i : ℕ) (y : A) → P y → Each P xs → Each P (slice_set xs i y)
each_set P [] i y new all = tt
each_set P (x ∷ xs) zero y new all = (new, all.1)
each_set P (x ∷ xs) (suc i) y new all = (all.0, each_set P xs i y new all.1)

pub each_get : {A : Type 0} (P : A → Type 0) (xs : List A) (i : ℕ) (x : A) → Each P xs → slice_get xs i ≡ Some x → P x
each_get P [] i x all is = absurd (let e : None ≡ Some x = is in cc)
each_get P (y ∷ xs) zero x all is = subst P (let e : Some y ≡ Some x = is in cc) all.0
each_get P (y ∷ xs) (suc i) x all is = each_get P xs i x all.1 is
