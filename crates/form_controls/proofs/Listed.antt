-- Lists that are filtered, and what is made of each member; and numbers that rise.
use Rattle.std.proofs.Common.{◌≡◌, ℕ, zero, suc, ◌+◌, ◌-◌, ◌<◌, ◌≤◌, Bool, true, false, List, [], ◌∷◌, length, get_or, refl, sym, ap, ◌∙◌, subst, arith, inl}
use Rattle.std.proofs.Common.{inr, ⊎_elim}
use Rattle.std.specs.Prelude.{◌⊎◌, filter, map, cond}
use Rattle.std.specs.List.{Contains, range_with_len}
use Rattle.std.specs.List.Sorted.{IsStrictlyIncreasing}
use Rattle.std.proofs.lemmas.Bool.{false≢true}
use Rattle.std.proofs.lemmas.List.FromFn.{get_or-range_with_len, length-range_with_len}

-- members of lists

pub contains_first : {X : Type 0} (x : X) (xs : List X) → Contains (x ∷ xs) x
contains_first x xs = (0, omega arith, refl)

pub contains_later : {X : Type 0} (y x : X) (xs : List X) → Contains xs x → Contains (y ∷ xs) x
contains_later y x xs h = let lt = h.1 in (suc h.0, omega arith, h.2)

pub contains_cases : {X : Type 0} (y x : X) (xs : List X) → Contains (y ∷ xs) x → (y ≡ x) ⊎ Contains xs x
contains_cases {X} y x xs h = by_place h.0 h.1 h.2
  where
    by_place : (k : ℕ) → k < length (y ∷ xs) → get_or (y ∷ xs) k x ≡ x → (y ≡ x) ⊎ Contains xs x
    by_place zero lt e = inl e
    by_place (suc k) lt e = inr (k, omega arith, e)

pub nothing_in_none : {X : Type 0} (x : X) → Contains [] x → ⊥
nothing_in_none x h = let lt = h.1 in omega arith

module _ {X Y : Type 0} (f : X → Y) (p : X → Bool) where
  -- what is made of those that pass comes from one of them

  pub contains_made : (xs : List X) (y : Y) → Contains (map f (filter p xs)) y → (x : X) × Contains xs x × (p x ≡ true) × (f x ≡ y)
  contains_made [] y h = absurd (nothing_in_none y h)
  contains_made (x ∷ xs) y h = by_test (contains_made xs y) (p x) refl h
    where
      Made : List X → Type 0
      Made zs = (z : X) × Contains zs z × (p z ≡ true) × (f z ≡ y)

      later : Made xs → Made (x ∷ xs)
      later w = (w.0, contains_later x w.0 xs w.1, w.2, w.3)

      by_test : (Contains (map f (filter p xs)) y → Made xs) → (b : Bool) → p x ≡ b →
          Contains (map f (cond b (x ∷ filter p xs) (filter p xs))) y → Made (x ∷ xs)
      by_test rest true e i =
          ⊎_elim (λ same. (x, contains_first x xs, e, same)) (λ j. later (rest j)) (contains_cases (f x) y (map f (filter p xs)) i)
      by_test rest false e i = later (rest i)

  -- what is made of each one that passes is among them

  pub made_contains : (xs : List X) (x : X) → Contains xs x → p x ≡ true → Contains (map f (filter p xs)) (f x)
  made_contains [] x h e = absurd (nothing_in_none x h)
  made_contains (y ∷ xs) x h e = by_test (λ i. made_contains xs x i e) (p y) refl (contains_cases y x xs h)
    where
      by_test : (Contains xs x → Contains (map f (filter p xs)) (f x)) → (b : Bool) → p y ≡ b → (y ≡ x) ⊎ Contains xs x →
          Contains (map f (cond b (y ∷ filter p xs) (filter p xs))) (f x)
      by_test rest true t (inl same) = subst (λ z. Contains (f y ∷ map f (filter p xs)) (f z)) same (contains_first (f y) (map f (filter p xs)))
      by_test rest true t (inr i) = contains_later (f y) (f x) (map f (filter p xs)) (rest i)
      by_test rest false t (inl same) = absurd (false≢true (sym t ∙ ap p same ∙ e))
      by_test rest false t (inr i) = rest i

-- rising numbers

pub contains_range : (a n x : ℕ) → a ≤ x → x < a + n → Contains (range_with_len a n) x
contains_range a n x low high = (x - a, omega (arith, length-range_with_len a n), get_or-range_with_len a n (x - a) x (omega arith) ∙ omega arith)

pub in_range : (a n x : ℕ) → Contains (range_with_len a n) x → (a ≤ x) × (x < a + n)
in_range a n x h =
    let lt = h.1 in
    let long = length-range_with_len a n in
    let is = get_or-range_with_len a n h.0 x (omega arith) in
    let same = h.2 in
    (omega arith, omega arith)

pub range_increases : (a n : ℕ) → IsStrictlyIncreasing (range_with_len a n)
range_increases a n k lt =
    let long = length-range_with_len a n in
    let here = get_or-range_with_len a n k 0 (omega arith) in
    let next = get_or-range_with_len a n (k + 1) 0 (omega arith) in
    omega arith
