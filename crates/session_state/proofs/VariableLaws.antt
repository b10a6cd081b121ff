-- The numbers that variables hold.
use Rattle.std.proofs.Common.{◌<◌, ◌≤◌, ℕ, zero, suc, Bool, true, false, cond, List, [], ◌∷◌, ◌++◌, arith, Option, Some, None}
use Rattle.std.specs.Prelude.{max, slice_set, bytes_eq, option_map, IfSome}
use Rattle.std.specs.List.{find}
use Rattle.ce_algorithms.specs.State.{value_of}
use Rattle.session_state.specs.Variables.{highest, ArePositive}

pub highest-append : (vs : List (List ℕ × ℕ)) (v : List ℕ) (n : ℕ) → highest (vs ++ (v, n) ∷ []) ≤ max n (highest vs)
highest-append [] v n = omega arith
highest-append (b ∷ bs) v n = omega (arith, highest-append bs v n)

pub highest-set : (vs : List (List ℕ × ℕ)) (i : ℕ) (v : List ℕ) (n : ℕ) → highest (slice_set vs i (v, n)) ≤ max n (highest vs)
highest-set [] i v n = omega arith
highest-set (b ∷ bs) zero v n = omega arith
highest-set (b ∷ bs) (suc i) v n = omega (arith, highest-set bs i v n)

pub positive-append : (vs : List (List ℕ × ℕ)) (v : List ℕ) (n : ℕ) → ArePositive vs → 0 < n → ArePositive (vs ++ (v, n) ∷ [])
positive-append [] v n are is = (is, tt)
positive-append (b ∷ bs) v n are is = (are.0, positive-append bs v n are.1 is)

pub positive-set : (vs : List (List ℕ × ℕ)) (i : ℕ) (v : List ℕ) (n : ℕ) → ArePositive vs → 0 < n → ArePositive (slice_set vs i (v, n))
positive-set [] i v n are is = tt
positive-set (b ∷ bs) zero v n are is = (is, are.1)
positive-set (b ∷ bs) (suc i) v n are is = (are.0, positive-set bs i v n are.1 is)

-- what a variable holds
found_in : Bool → (List ℕ × ℕ) → Option (List ℕ × ℕ) → Option ℕ
found_in same b rest = option_map (λ (b : List ℕ × ℕ). b.1) (cond same (Some b) rest)

pub value_of-made : (vs : List (List ℕ × ℕ)) (v : List ℕ) → ArePositive vs → IfSome (value_of vs v) (λ n. (0 < n) × (n ≤ highest vs))
unfolding found_in
value_of-made [] v are = tt
value_of-made (b ∷ bs) v are = go (bytes_eq b.0 v) (value_of-made bs v are.1)
  where
    weaker : (o : Option (List ℕ × ℕ)) → IfSome (option_map (λ (b : List ℕ × ℕ). b.1) o) (λ n. (0 < n) × (n ≤ highest bs))
        → IfSome (option_map (λ (b : List ℕ × ℕ). b.1) o) (λ n. (0 < n) × (n ≤ highest (b ∷ bs)))
    weaker None h = tt
    weaker (Some a) h = (h.0, omega (arith, h.1))

    go : (same : Bool) → IfSome (value_of bs v) (λ n. (0 < n) × (n ≤ highest bs))
        → IfSome (found_in same b (find (λ (b : List ℕ × ℕ). bytes_eq b.0 v) bs)) (λ n. (0 < n) × (n ≤ highest (b ∷ bs)))
    go true h = (are.0, omega arith)
    go false h = weaker (find (λ (b : List ℕ × ℕ). bytes_eq b.0 v) bs) h
