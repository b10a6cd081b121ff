-- Sums over the nodes of trees, and what changes leave of them.
use Rattle.std.proofs.Common.{◌≡◌, ℕ, ◌+◌, ◌≤◌, Option, refl, arith, cond, eqb}
use Rattle.std.proofs.lemmas.Bool.Decides.{nat_tests}
use Rattle.node_trees.specs.Facts.{Facts}
use Rattle.node_trees.specs.Trees.{Trees, none, tree, join, tree_of, without, place, before, put, with_shadow, with_facts}
use Rattle.node_trees.specs.Nodes.{weight, times}

-- no number stands twice
abbrev pub IsApart : Trees → Type 0
IsApart f = (i : ℕ) → times i f ≤ 1

module _ (w : ℕ → Facts → ℕ) where
  pub weight-join : (f g : Trees) → weight w (join f g) ≡ weight w f + weight w g
  weight-join none g = omega arith
  weight-join (tree m x s k r) g = omega (arith, weight-join r g)

  -- what is taken out and what is left are all
  pub weight-without : (n : ℕ) (f : Trees) → times n f ≤ 1 → weight w (tree_of n f) + weight w (without n f) ≡ weight w f
  weight-without n none h = refl
  weight-without n (tree m x s k r) h =
      let a = weight-without n s (omega arith) in
      let b = weight-without n k (omega arith) in
      let c = weight-without n r (omega arith) in
      grind (arith, nat_tests, weight-join (tree_of n s) (join (tree_of n k) (tree_of n r)), weight-join (tree_of n k) (tree_of n r), a, b, c)

  pub weight-place : (n : ℕ) (t f : Trees) → weight w (place n t f) ≡ weight w t + weight w f
  weight-place n t none = omega arith
  weight-place n t (tree m x s k r) = grind (arith, weight-join t (tree m x s k r), weight-place n t r)

  pub weight-before : (b : Option ℕ) (t f : Trees) → weight w (before b t f) ≡ weight w t + weight w f
  weight-before b t none = omega arith
  weight-before b t (tree m x s k r) = grind (arith, weight-join t (tree m x s k r), weight-before b t r)

  pub weight-put : (p : ℕ) (b : Option ℕ) (t f : Trees) → times p f ≤ 1 → weight w (put p b t f) ≡ cond (eqb (times p f) 0) 0 (weight w t) + weight w f
  weight-put p b t none h = omega arith
  weight-put p b t (tree m x s k r) h =
      grind (arith, nat_tests, weight-before b t k, weight-put p b t s (omega arith), weight-put p b t k (omega arith), weight-put p b t r (omega arith))

  pub weight-shadow : (q : ℕ) (t f : Trees) → times q f ≤ 1 → weight w (with_shadow q t f) ≡ cond (eqb (times q f) 0) 0 (weight w t) + weight w f
  weight-shadow q t none h = omega arith
  weight-shadow q t (tree m x s k r) h =
      grind (arith, nat_tests, weight-join s t, weight-shadow q t s (omega arith), weight-shadow q t k (omega arith), weight-shadow q t r (omega arith))

  -- a change of facts that the sum takes no heed of
  pub weight-with : (n : ℕ) (change : Facts → Facts) → ((x : Facts) → w n (change x) ≡ w n x) → (f : Trees) → weight w (with_facts n change f) ≡ weight w f
  weight-with n change same none = refl
  weight-with n change same (tree m x s k r) = let e =
      same x in grind (arith, nat_tests, e, weight-with n change same s, weight-with n change same k, weight-with n change same r)
