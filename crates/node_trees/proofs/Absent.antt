-- A number that no node has, one on a path, and one in a list.
use Rattle.std.proofs.Common.{◌≡◌, ◌≢◌, ℕ, ◌+◌, ◌≤◌, ◌||◌, ◌&&◌, ◌==◌, Bool, true, false, cond, List, [], ◌∷◌, ◌++◌, Option, Some, None, refl, sym, ap, ◌∙◌, arith, inl, inr}
use Rattle.std.specs.Prelude.{filter}
use Rattle.std.proofs.lemmas.Bool.{cases_eq}
use Rattle.std.proofs.lemmas.Bool.Decides.{nat_tests}
use Rattle.node_trees.specs.Trees.{Trees, none, tree, join, without}
use Rattle.node_trees.specs.Nodes.{times}
use Rattle.node_trees.specs.Paths.{under, is_among}
use Rattle.node_trees.specs.Spots.{spot_in}

pub spot-absent : (p h : Option ℕ) (n : ℕ) (f : Trees) → times n f ≡ 0 → spot_in p h n f ≡ None
spot-absent p h n none z = refl
spot-absent p h n (tree m x s k r) z =
    grind (arith, nat_tests, spot-absent None (Some m) n s (omega arith), spot-absent (Some m) None n k (omega arith), spot-absent p h n r (omega arith))

pub without-absent : (n : ℕ) (f : Trees) → times n f ≡ 0 → without n f ≡ f
without-absent n none z = refl
without-absent n (tree m x s k r) z =
    grind (arith, nat_tests, without-absent n s (omega arith), without-absent n k (omega arith), without-absent n r (omega arith))

pub without-join : (n : ℕ) (f g : Trees) → times n f + times n g ≤ 1 → without n (join f g) ≡ join (without n f) (without n g)
without-join n none g one = refl
without-join n (tree m x s k r) g one =
    elim (cases_eq m n) [
      | inl e ↦ grind (arith, nat_tests, without-absent n g (grind (arith, nat_tests)))
      | inr ne ↦ grind (arith, nat_tests, without-join n r g (omega arith))
    ]

pub is_among-append : (n : ℕ) (xs ys : List ℕ) → is_among n (xs ++ ys) ≡ (is_among n xs || is_among n ys)
is_among-append n [] ys = refl
is_among-append n (x ∷ xs) ys = grind (arith, nat_tests, is_among-append n xs ys)

pub is_among-under : (n m : ℕ) (xs : List ℕ) → m ≢ n → is_among n (under m xs) ≡ is_among n xs
is_among-under n m [] ne = refl
is_among-under n m (x ∷ xs) ne = grind (arith, nat_tests)

pub is_among-filter : (p : ℕ → Bool) (m : ℕ) (xs : List ℕ) → is_among m (filter p xs) ≡ (p m && is_among m xs)
is_among-filter p m [] = by_test (p m)
  where
    by_test : (b : Bool) → false ≡ (b && false)
    by_test true = refl
    by_test false = refl
is_among-filter p m (x ∷ xs) = by_test (is_among-filter p m xs) (p x) refl
  where
    by_test : is_among m (filter p xs) ≡ (p m && is_among m xs) → (b : Bool) → p x ≡ b
        → is_among m (cond b (x ∷ filter p xs) (filter p xs)) ≡ (p m && (x == m || is_among m xs))
    by_test more true e = elim (cases_eq x m) [
      | inl same ↦ let passes : p m ≡ true = ap p (sym same) ∙ e in grind (arith, nat_tests, more)
      | inr other ↦ grind (arith, nat_tests, more)
    ]
    by_test more false e = elim (cases_eq x m) [
      | inl same ↦ let fails : p m ≡ false = ap p (sym same) ∙ e in grind (arith, nat_tests, more)
      | inr other ↦ grind (arith, nat_tests, more)
    ]
