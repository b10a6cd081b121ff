-- What stands how often in nested trees, and where a number stands.
use Rattle.std.proofs.Common.{◌≡◌, ◌≢◌, ℕ, ◌+◌, ◌<◌, ◌≤◌, arith, inl, inr, if◌then◌else◌, ◌==◌}
use Rattle.std.proofs.lemmas.Bool.Decides.{nat_tests}
use Rattle.std.proofs.lemmas.Bool.{cases_lt, cases_eq}
use Rattle.node_trees.specs.Facts.{Facts}
use Rattle.node_trees.specs.Trees.{Trees, tree, join, tree_of, without}
use Rattle.node_trees.specs.Nodes.{times, IsTidy}
use Rattle.node_trees.proofs.Weights.{IsApart, weight-join, weight-without}

pub tidy-apart : (f : Trees) → IsTidy f → IsApart f
tidy-apart f t i = elim (cases_lt 0 (times i f)) [
  | inl a ↦ omega (arith, t.once i (t.only i a))
  | inr b ↦ omega arith
]

module _ (m : ℕ) (x : Facts) (s k r : Trees) (apart : IsApart (tree m x s k r)) where
  pub apart-shadow : IsApart s
  apart-shadow i = omega (arith, apart i)

  pub apart-children : IsApart k
  apart-children i = omega (arith, apart i)

  pub apart-rest : IsApart r
  apart-rest i = omega (arith, apart i)

-- where a number of a list of trees stands: it is the first root's, or in one of the three parts
pub data Where (n m : ℕ) (s k r : Trees) : Type 0 where
  here : m ≡ n → times n s ≡ 0 → times n k ≡ 0 → times n r ≡ 0 → Where n m s k r
  in_shadow : m ≢ n → 0 < times n s → times n k ≡ 0 → times n r ≡ 0 → Where n m s k r
  in_children : m ≢ n → times n s ≡ 0 → 0 < times n k → times n r ≡ 0 → Where n m s k r
  in_rest : m ≢ n → times n s ≡ 0 → times n k ≡ 0 → 0 < times n r → Where n m s k r

pub stands_where : (n m : ℕ) (x : Facts) (s k r : Trees) → IsApart (tree m x s k r) → 0 < times n (tree m x s k r) → Where n m s k r
stands_where n m x s k r apart pos =
    let one = apart n in
    elim (cases_eq m n) [
      | inl e ↦ here e (grind (arith, nat_tests)) (grind (arith, nat_tests)) (grind (arith, nat_tests))
      | inr ne ↦ elim (cases_lt 0 (times n s)) [
        | inl a ↦ in_shadow ne a (grind (arith, nat_tests)) (grind (arith, nat_tests))
        | inr b ↦ elim (cases_lt 0 (times n k)) [
          | inl a ↦ in_children ne (omega arith) a (grind (arith, nat_tests))
          | inr c ↦ in_rest ne (omega arith) (omega arith) (grind (arith, nat_tests))
        ]
      ]
    ]

abbrev pub one_at : ℕ → ℕ → Facts → ℕ
one_at n m x = if m == n then 1 else 0

pub times-join : (n : ℕ) (f g : Trees) → times n (join f g) ≡ times n f + times n g
times-join n = weight-join (one_at n)

pub times-without : (i n : ℕ) (f : Trees) → times n f ≤ 1 → times i (tree_of n f) + times i (without n f) ≡ times i f
times-without i = weight-without (one_at i)
