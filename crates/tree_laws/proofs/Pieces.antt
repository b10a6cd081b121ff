-- What is read at a number, from the part of a list of trees that it stands in.
use Rattle.std.proofs.Common.{◌≡◌, ◌≢◌, ℕ, ◌+◌, ◌<◌, ◌≤◌, List, [], ◌∷◌, ◌++◌, Option, Some, None, refl, ap, arith, inl, inr, length, length-append, append-nil}
use Rattle.std.proofs.lemmas.Bool.Decides.{nat_tests}
use Rattle.std.proofs.lemmas.Bool.{cases_lt, cases_eq}
use Rattle.std.specs.Option.{option_or}
use Rattle.node_trees.specs.Facts.{Facts}
use Rattle.node_trees.specs.Trees.{Trees, none, tree, join, tree_of}
use Rattle.node_trees.specs.Nodes.{times}
use Rattle.node_trees.specs.Spots.{spot_of, spot_in}
use Rattle.node_trees.specs.Paths.{path, under}
use Rattle.node_trees.proofs.Absent.{spot-absent}

-- ---- what stands at a number

pub option_or-nothing : {A : Type 0} (o : Option A) → option_or o None ≡ o
option_or-nothing None = refl
option_or-nothing (Some a) = refl

pub spot-here : (p h : Option ℕ) (n m : ℕ) (x : Facts) (s k r : Trees) → m ≡ n → spot_in p h n (tree m x s k r) ≡ Some (spot_of x p h s k)
spot-here p h n m x s k r e = grind (arith, nat_tests)

module _ (p h : Option ℕ) (n m : ℕ) (x : Facts) (s k r : Trees) (ne : m ≢ n) where
  pub spot-shadow : times n k ≡ 0 → times n r ≡ 0 → spot_in p h n (tree m x s k r) ≡ spot_in None (Some m) n s
  spot-shadow b c = grind (arith, nat_tests, spot-absent (Some m) None n k b, spot-absent p h n r c, option_or-nothing (spot_in None (Some m) n s))

  pub spot-children : times n s ≡ 0 → times n r ≡ 0 → spot_in p h n (tree m x s k r) ≡ spot_in (Some m) None n k
  spot-children a c = grind (arith, nat_tests, spot-absent None (Some m) n s a, spot-absent p h n r c, option_or-nothing (spot_in (Some m) None n k))

  pub spot-rest : times n s ≡ 0 → times n k ≡ 0 → spot_in p h n (tree m x s k r) ≡ spot_in p h n r
  spot-rest a b = grind (arith, nat_tests, spot-absent None (Some m) n s a, spot-absent (Some m) None n k b)

-- ---- the tree of a number

join-none : (f : Trees) → join f none ≡ f
join-none none = refl
join-none (tree m x s k r) = ap (tree m x s k) (join-none r)

pub tree_of-absent : (n : ℕ) (f : Trees) → times n f ≡ 0 → tree_of n f ≡ none
tree_of-absent n none z = refl
tree_of-absent n (tree m x s k r) z =
    grind (arith, nat_tests, tree_of-absent n s (omega arith), tree_of-absent n k (omega arith), tree_of-absent n r (omega arith))

pub tree_of-here : (n m : ℕ) (x : Facts) (s k r : Trees) → m ≡ n → tree_of n (tree m x s k r) ≡ tree m x s k none
tree_of-here n m x s k r e = grind (arith, nat_tests)

module _ (n m : ℕ) (x : Facts) (s k r : Trees) (ne : m ≢ n) where
  pub tree_of-shadow : times n k ≡ 0 → times n r ≡ 0 → tree_of n (tree m x s k r) ≡ tree_of n s
  tree_of-shadow b c = grind (arith, nat_tests, tree_of-absent n k b, tree_of-absent n r c, join-none (tree_of n s))

  pub tree_of-children : times n s ≡ 0 → times n r ≡ 0 → tree_of n (tree m x s k r) ≡ tree_of n k
  tree_of-children a c = grind (arith, nat_tests, tree_of-absent n s a, tree_of-absent n r c, join-none (tree_of n k))

  pub tree_of-rest : times n s ≡ 0 → times n k ≡ 0 → tree_of n (tree m x s k r) ≡ tree_of n r
  tree_of-rest a b = grind (arith, nat_tests, tree_of-absent n s a, tree_of-absent n k b)

-- ---- the path to a number

pub path-absent : (n : ℕ) (f : Trees) → times n f ≡ 0 → path n f ≡ []
path-absent n none z = refl
path-absent n (tree m x s k r) z =
    grind (arith, nat_tests, path-absent n s (omega arith), path-absent n k (omega arith), path-absent n r (omega arith))

length-under : (m : ℕ) (xs : List ℕ) → length xs ≤ length (under m xs)
length-under m [] = omega arith
length-under m (x ∷ xs) = omega arith

under-long : (m : ℕ) (xs : List ℕ) → 0 < length xs → under m xs ≡ m ∷ xs
under-long m [] pos = absurd (omega arith)
under-long m (x ∷ xs) pos = refl

pub path-long : (n : ℕ) (f : Trees) → 0 < times n f → 0 < length (path n f)
path-long n none pos = absurd (omega arith)
path-long n (tree j x s k r) pos =
    let below : 0 < times n s + times n k → 0 < length (path n s ++ path n k) = λ h.
    elim (cases_lt 0 (times n s)) [
      | inl a ↦ omega (arith, path-long n s a, length-append (path n s) (path n k))
      | inr b ↦ omega (arith, path-long n k (omega arith), length-append (path n s) (path n k))
    ] in
    elim (cases_eq j n) [
      | inl e ↦ grind (arith, nat_tests)
      | inr ne ↦
          let is : path n (tree j x s k r) ≡ under j (path n s ++ path n k) ++ path n r = grind (arith, nat_tests) in
          rw is (elim (cases_lt 0 (times n r)) [
            | inl a ↦ omega (arith, path-long n r a, length-append (under j (path n s ++ path n k)) (path n r))
            | inr b ↦
                let low : 0 < times n s + times n k = grind (arith, nat_tests) in
                omega (arith, below low, length-under j (path n s ++ path n k), length-append (under j (path n s ++ path n k)) (path n r))
          ])
    ]

pub path-here : (n m : ℕ) (x : Facts) (s k r : Trees) → m ≡ n → path n (tree m x s k r) ≡ n ∷ []
path-here n m x s k r e = grind (arith, nat_tests)

module _ (n m : ℕ) (x : Facts) (s k r : Trees) (ne : m ≢ n) where
  pub path-shadow : 0 < times n s → times n k ≡ 0 → times n r ≡ 0 → path n (tree m x s k r) ≡ m ∷ path n s
  path-shadow a b c = grind (
    arith,
    nat_tests,
    path-absent n k b,
    path-absent n r c,
    append-nil (path n s),
    append-nil (m ∷ path n s),
    under-long m (path n s) (path-long n s a),
  )

  pub path-children : times n s ≡ 0 → 0 < times n k → times n r ≡ 0 → path n (tree m x s k r) ≡ m ∷ path n k
  path-children a b c = grind (arith, nat_tests, path-absent n s a, path-absent n r c, append-nil (m ∷ path n k), under-long m (path n k) (path-long n k b))

  pub path-rest : times n s ≡ 0 → times n k ≡ 0 → path n (tree m x s k r) ≡ path n r
  path-rest a b = grind (arith, nat_tests, path-absent n s a, path-absent n k b)
