-- A list read at an index, and one that is longer.
use Rattle.std.proofs.Common.{◌≡◌, ℕ, zero, suc, List, [], ◌∷◌, ◌++◌, length, Some, refl, ap, ◌⊎◌, inl, inr}
use Rattle.std.specs.List.{slice_get}

pub not_within : {A : Type 0} → (i : ℕ) (x : A) → slice_get [] i ≡ Some x → ⊥
not_within zero x e = absurd (cc e)
not_within (suc i) x e = absurd (cc e)

pub push_get : {A : Type 0} → (xs : List A) (x : A) (i : ℕ) (s : A) → slice_get (xs ++ x ∷ []) i ≡ Some s
    → (slice_get xs i ≡ Some s) ⊎ ((i ≡ length xs) × (s ≡ x))
push_get [] x zero s read = inr (refl, cc read)
push_get [] x (suc i) s read = absurd (not_within i s read)
push_get (y ∷ xs) x zero s read = inl read
push_get (y ∷ xs) x (suc i) s read = elim (push_get xs x i s read) [ inl there ↦ inl there | inr last ↦ inr (ap suc last.0, last.1) ]

pub get_push : {A : Type 0} → (xs : List A) (x : A) (i : ℕ) (s : A) → slice_get xs i ≡ Some s → slice_get (xs ++ x ∷ []) i ≡ Some s
get_push [] x i s read = absurd (not_within i s read)
get_push (y ∷ xs) x zero s read = read
get_push (y ∷ xs) x (suc i) s read = get_push xs x i s read
