-- What follows a front, and the bytes of a boundary.
use Rattle.std.proofs.Common.{◌≡◌, ◌<◌, ℕ, Bool, true, false, cond, List, [], ◌∷◌, ◌++◌, length, drop, Some, None, refl, ap, subst, ◌∙◌, arith}
use Rattle.std.proofs.lemmas.Bool.{and_parts, ne_eqb, leb-true}
use Rattle.std.proofs.lemmas.Bool.Decides.{Decides-eqb, nat_tests}
use Rattle.std.proofs.lemmas.List.{drop_at}
use Rattle.std.proofs.lemmas.Slice.Eq.{starts_is}
use Rattle.std.specs.Char.{is_ascii_alphanumeric}
use Rattle.std.specs.List.{AllByRecursion, starts_with, list_all}
use Rattle.std.specs.Prelude.{nat_eq}
use Rattle.submit_encoders.proofs.Occurs.{begins_with}
use Rattle.body_grammars.specs.Bodies.{IsBoundary}
use Rattle.body_grammars.specs.Cuts.{behind}

-- ---- fronts

pub starts_said : (front bytes : List ℕ) → starts_with nat_eq bytes front ≡ true → bytes ≡ front ++ drop (length front) bytes
starts_said front bytes is = (starts_is Decides-eqb bytes front (starts_with nat_eq bytes front) refl).0 is

behind_step : (front bytes rest : List ℕ) (t : Bool) → starts_with nat_eq bytes front ≡ t → cond t (Some (drop (length front) bytes)) None ≡ Some rest
    → bytes ≡ front ++ rest
behind_step front bytes rest true is e = let same : drop (length front) bytes ≡ rest = (cc) in starts_said front bytes is ∙ ap (λ (l : List ℕ). front ++ l) same
behind_step front bytes rest false is e = absurd cc

pub behind_said : (front bytes rest : List ℕ) → behind front bytes ≡ Some rest → bytes ≡ front ++ rest
unfolding behind
behind_said front bytes rest e = behind_step front bytes rest (starts_with nat_eq bytes front) refl e

pub behind_again : (front rest : List ℕ) → behind front (front ++ rest) ≡ Some rest
unfolding behind
behind_again front rest = rw (begins_with front rest) (ap Some (drop_at front rest (length front) refl))

pub behind_not : (front bytes : List ℕ) → starts_with nat_eq bytes front ≡ false → behind front bytes ≡ None
unfolding behind
behind_not front bytes is = rw is refl

-- ---- boundaries

abbrev pub HasSome : List ℕ → Type 0
HasSome bs = 0 < length bs

pub record IsBound (b : ℕ) : Type 0 where
  pub low : b < 128
  pub cr : nat_eq b 13 ≡ false
  pub lf : nat_eq b 10 ≡ false
  pub dash : nat_eq b 45 ≡ false

differs : (b c : ℕ) → is_ascii_alphanumeric b ≡ true → (is_ascii_alphanumeric c ≡ true → ⊥) → nat_eq b c ≡ false
differs b c is differ = ne_eqb b c (λ e. differ (subst (λ (x : ℕ). is_ascii_alphanumeric x ≡ true) e is))

bound_of : (b : ℕ) → is_ascii_alphanumeric b ≡ true → IsBound b
bound_of b is = record {
  low = low_of b is;
  cr = differs b 13 is (λ e. absurd cc);
  lf = differs b 10 is (λ e. absurd cc);
  dash = differs b 45 is (λ e. absurd cc);
}
  where
    low_of : (x : ℕ) → is_ascii_alphanumeric x ≡ true → x < 128
    low_of x e = grind (arith, nat_tests)

bounds_of : (bs : List ℕ) → list_all is_ascii_alphanumeric bs ≡ true → AllByRecursion IsBound bs
bounds_of [] are = tt
bounds_of (b ∷ bs) are = let both = and_parts _ _ are in (bound_of b both.0, bounds_of bs both.1)

pub boundary_bounds : (boundary : List ℕ) → IsBoundary boundary → AllByRecursion IsBound boundary
boundary_bounds boundary is = bounds_of boundary (and_parts _ _ is).1

pub boundary_some : (boundary : List ℕ) → IsBoundary boundary → HasSome boundary
boundary_some boundary is = let long = leb-true 1 (length boundary) (and_parts _ _ (and_parts _ _ is).0).0 in omega (arith, long)
