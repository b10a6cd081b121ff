-- What stands at a node, and the path to it, after a tree was taken out or put among the roots.
use Rattle.std.proofs.Common.{◌≡◌, ◌≢◌, ℕ, ◌+◌, Option, Some, None, refl, arith, inl, inr}
use Rattle.std.proofs.lemmas.Bool.Decides.{nat_tests}
use Rattle.std.proofs.lemmas.Bool.{cases_eq}
use Rattle.std.specs.Option.{option_or}
use Rattle.node_trees.specs.Facts.{Facts}
use Rattle.node_trees.specs.Trees.{Trees, none, tree, join, tree_of, without, place}
use Rattle.node_trees.specs.Nodes.{times}
use Rattle.node_trees.specs.Paths.{path}
use Rattle.node_trees.specs.Spots.{Spot, spot_in}
use Rattle.tree_laws.proofs.Sums.{apart-shadow, apart-children, apart-rest, times-join}
use Rattle.tree_laws.proofs.Pieces.{option_or-nothing, path-absent, tree_of-absent, tree_of-here}
use Rattle.tree_laws.proofs.Lists.{spot_lacking, roots-without}
use Rattle.node_trees.proofs.Weights.{IsApart}
use Rattle.node_trees.proofs.Absent.{spot-absent, without-absent}

-- ---- trees side by side

or_spot-assoc : (a b c : Option Spot) → option_or (option_or a b) c ≡ option_or a (option_or b c)
or_spot-assoc None b c = refl
or_spot-assoc (Some a) b c = refl

pub spot-join : (p h : Option ℕ) (i : ℕ) (f g : Trees) → spot_in p h i (join f g) ≡ option_or (spot_in p h i f) (spot_in p h i g)
spot-join p h i none g = refl
spot-join p h i (tree m x s k r) g =
    grind (
      arith,
      nat_tests,
      spot-join p h i r g,
      or_spot-assoc (spot_in None (Some m) i s) (option_or (spot_in (Some m) None i k) (spot_in p h i r)) (spot_in p h i g),
      or_spot-assoc (spot_in (Some m) None i k) (spot_in p h i r) (spot_in p h i g),
    )

pub path-join-left : (i : ℕ) (f g : Trees) → times i g ≡ 0 → path i (join f g) ≡ path i f
path-join-left i none g z = path-absent i g z
path-join-left i (tree m x s k r) g z = grind (arith, nat_tests, path-join-left i r g z)

pub path-join-right : (i : ℕ) (f g : Trees) → times i f ≡ 0 → path i (join f g) ≡ path i g
path-join-right i none g z = refl
path-join-right i (tree m x s k r) g z =
    grind (arith, nat_tests, path-join-right i r g (omega arith), path-absent i s (omega arith), path-absent i k (omega arith))

-- a tree put among the roots: what stands in it, and what stands beside it
pub spot-place-in : (p h : Option ℕ) (i n : ℕ) (t g : Trees) → times i g ≡ 0 → spot_in p h i (place n t g) ≡ spot_in p h i t
spot-place-in p h i n t none z = refl
spot-place-in p h i n t (tree m x s k r) z =
    grind (
      arith,
      nat_tests,
      spot-join p h i t (tree m x s k r),
      option_or-nothing (spot_in p h i t),
      spot-place-in p h i n t r (omega arith),
      spot-absent None (Some m) i s (omega arith),
      spot-absent (Some m) None i k (omega arith),
      spot-absent p h i (tree m x s k r) z,
    )

pub spot-place-out : (p h : Option ℕ) (i n : ℕ) (t g : Trees) → times i t ≡ 0 → spot_in p h i (place n t g) ≡ spot_in p h i g
spot-place-out p h i n t none z = spot-absent p h i t z
spot-place-out p h i n t (tree m x s k r) z =
    grind (arith, nat_tests, spot-join p h i t (tree m x s k r), spot-absent p h i t z, spot-place-out p h i n t r z)

pub path-place-out : (i n : ℕ) (t g : Trees) → times i t ≡ 0 → path i (place n t g) ≡ path i g
path-place-out i n t none z = path-absent i t z
path-place-out i n t (tree m x s k r) z =
    grind (arith, nat_tests, path-join-right i t (tree m x s k r) z, path-place-out i n t r z)

-- ---- the trees without that of n

lacking-or : (n : ℕ) (a b : Option Spot) → spot_lacking n (option_or a b) ≡ option_or (spot_lacking n a) (spot_lacking n b)
lacking-or n None b = refl
lacking-or n (Some a) b = refl

-- what is in the tree of n is in one of the three parts
tree_of-parts : (i n m : ℕ) (x : Facts) (s k r : Trees) → m ≢ n
    → times i (tree_of n (tree m x s k r)) ≡ times i (tree_of n s) + (times i (tree_of n k) + times i (tree_of n r))
tree_of-parts i n m x s k r ne =
    grind (arith, nat_tests, times-join i (tree_of n s) (join (tree_of n k) (tree_of n r)), times-join i (tree_of n k) (tree_of n r))

-- what stands beside the tree of n loses n from its children, or from its shadow tree
pub spot-without : (p h : Option ℕ) (i n : ℕ) (f : Trees) → IsApart f → times i (tree_of n f) ≡ 0
    → spot_in p h i (without n f) ≡ spot_lacking n (spot_in p h i f)
spot-without p h i n none apart z = refl
spot-without p h i n (tree m x s k r) apart z =
    let one = apart n in
    elim (cases_eq m n) [
      | inl e ↦
          let gone : times n r ≡ 0 = grind (arith, nat_tests) in
          let on = spot-without p h i n r (apart-rest m x s k r apart) (grind (arith, tree_of-absent n r gone)) in
          let same = without-absent n r gone in
          let here = tree_of-here n m x s k r e in
          let z_parts : times i (tree m x s k none) ≡ 0 = rw here at z in
          grind (arith, nat_tests, on, same, spot-absent None (Some m) i s (omega arith), spot-absent (Some m) None i k (omega arith))
      | inr ne ↦
          let parts = tree_of-parts i n m x s k r ne in
          let on_s = spot-without None (Some m) i n s (apart-shadow m x s k r apart) (omega arith) in
          let on_k = spot-without (Some m) None i n k (apart-children m x s k r apart) (omega arith) in
          let on_r = spot-without p h i n r (apart-rest m x s k r apart) (omega arith) in
          grind (
            arith,
            nat_tests,
            on_s,
            on_k,
            on_r,
            roots-without n s,
            roots-without n k,
            lacking-or n (spot_in None (Some m) i s) (option_or (spot_in (Some m) None i k) (spot_in p h i r)),
            lacking-or n (spot_in (Some m) None i k) (spot_in p h i r),
          )
    ]

-- and keeps its path
pub path-without : (i n : ℕ) (f : Trees) → IsApart f → times i (tree_of n f) ≡ 0 → path i (without n f) ≡ path i f
path-without i n none apart z = refl
path-without i n (tree m x s k r) apart z =
    elim (cases_eq m n) [
      | inl e ↦
          let here = tree_of-here n m x s k r e in
          let z_parts : times i (tree m x s k none) ≡ 0 = rw here at z in
          grind (arith, nat_tests, path-absent i s (omega arith), path-absent i k (omega arith))
      | inr ne ↦
          let parts = tree_of-parts i n m x s k r ne in
          let on_s = path-without i n s (apart-shadow m x s k r apart) (omega arith) in
          let on_k = path-without i n k (apart-children m x s k r apart) (omega arith) in
          let on_r = path-without i n r (apart-rest m x s k r apart) (omega arith) in
          grind (arith, nat_tests, on_s, on_k, on_r)
    ]
