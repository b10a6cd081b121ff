-- The way up from a node, a step at a time.
use Rattle.std.proofs.Common.{◌≡◌, ℕ, ◌<◌, ◌⊎◌, [], ◌∷◌, ◌++◌, Option, Some, None, refl, ap, sym, ◌∙◌, arith, inl, inr}
use Rattle.std.proofs.lemmas.Bool.Decides.{nat_tests}
use Rattle.node_trees.specs.Facts.{Facts}
use Rattle.node_trees.specs.Trees.{Trees, none, tree, tree_of}
use Rattle.node_trees.specs.Nodes.{times}
use Rattle.node_trees.specs.Spots.{Spot, spot_of, spot_in}
use Rattle.node_trees.specs.Paths.{path}
use Rattle.tree_laws.proofs.Sums.{apart-shadow, apart-children, apart-rest, here, in_shadow, in_children, in_rest, stands_where, times-without}
use Rattle.tree_laws.proofs.Pieces.{spot-here, spot-shadow, spot-children, spot-rest, tree_of-shadow, tree_of-children, tree_of-rest, path-here, path-shadow}
use Rattle.tree_laws.proofs.Pieces.{path-children, path-rest}
use Rattle.node_trees.proofs.Weights.{IsApart}

-- n stands under q: as its child, or as the root of its shadow tree
pub record Under (q n : ℕ) (f : Trees) (row : Spot) : Type 0 where
  pub link : ((row.parent ≡ Some q) × (row.host ≡ None)) ⊎ ((row.parent ≡ None) × (row.host ≡ Some q))
  pub inside : 0 < times q f
  pub outside : times q (tree_of n f) ≡ 0
  pub path_is : path n f ≡ path q f ++ (n ∷ [])

-- what is above n in a list of trees under p and h: nothing of the list, or q
pub data Step (p h : Option ℕ) (n : ℕ) (f : Trees) (row : Spot) : Type 0 where
  at_root : row.parent ≡ p → row.host ≡ h → path n f ≡ n ∷ [] → Step p h n f row
  above : (q : ℕ) → Under q n f row → Step p h n f row

module _ (m : ℕ) (x : Facts) (s k r : Trees) (apart : IsApart (tree m x s k r)) (q n : ℕ) (row : Spot) where
  under_shadow : 0 < times n s → Under q n s row → Under q n (tree m x s k r) row
  under_shadow pos u =
      let one_n = apart n in
      let one_q = apart q in
      let low = u.inside in
      let n_path = path-shadow n m x s k r (grind (arith, nat_tests)) pos (grind (arith, nat_tests)) (grind (arith, nat_tests)) in
      let q_path = path-shadow q m x s k r (grind (arith, nat_tests)) low (grind (arith, nat_tests)) (grind (arith, nat_tests)) in
      let is = tree_of-shadow n m x s k r (grind (arith, nat_tests)) (grind (arith, nat_tests)) (grind (arith, nat_tests)) in
      record { link = u.link; inside = omega (arith, low); outside = rw is u.outside; path_is = cc (n_path, q_path, u.path_is) }

  under_children : 0 < times n k → Under q n k row → Under q n (tree m x s k r) row
  under_children pos u =
      let one_n = apart n in
      let one_q = apart q in
      let low = u.inside in
      let n_path = path-children n m x s k r (grind (arith, nat_tests)) (grind (arith, nat_tests)) pos (grind (arith, nat_tests)) in
      let q_path = path-children q m x s k r (grind (arith, nat_tests)) (grind (arith, nat_tests)) low (grind (arith, nat_tests)) in
      let is = tree_of-children n m x s k r (grind (arith, nat_tests)) (grind (arith, nat_tests)) (grind (arith, nat_tests)) in
      record { link = u.link; inside = omega (arith, low); outside = rw is u.outside; path_is = cc (n_path, q_path, u.path_is) }

  under_rest : 0 < times n r → Under q n r row → Under q n (tree m x s k r) row
  under_rest pos u =
      let one_n = apart n in
      let one_q = apart q in
      let low = u.inside in
      let n_path = path-rest n m x s k r (grind (arith, nat_tests)) (grind (arith, nat_tests)) (grind (arith, nat_tests)) in
      let q_path = path-rest q m x s k r (grind (arith, nat_tests)) (grind (arith, nat_tests)) (grind (arith, nat_tests)) in
      let is = tree_of-rest n m x s k r (grind (arith, nat_tests)) (grind (arith, nat_tests)) (grind (arith, nat_tests)) in
      record { link = u.link; inside = omega (arith, low); outside = rw is u.outside; path_is = cc (n_path, q_path, u.path_is) }

module _ (m : ℕ) (x : Facts) (s k r : Trees) (apart : IsApart (tree m x s k r)) (n : ℕ) (row : Spot) where
  under_host : 0 < times n s → path n s ≡ n ∷ [] → row.parent ≡ None → row.host ≡ Some m → Under m n (tree m x s k r) row
  under_host pos is e o =
      let one_n = apart n in
      let one_m = apart m in
      let n_path = path-shadow n m x s k r (grind (arith, nat_tests)) pos (grind (arith, nat_tests)) (grind (arith, nat_tests)) in
      let m_path = path-here m m x s k r refl in
      let part = tree_of-shadow n m x s k r (grind (arith, nat_tests)) (grind (arith, nat_tests)) (grind (arith, nat_tests)) in
      let less = times-without m n s (omega arith) in
      record { link = inr (e, o); inside = grind (arith, nat_tests); outside = rw part (grind (arith, nat_tests)); path_is = cc (n_path, m_path, is) }

  under_parent : 0 < times n k → path n k ≡ n ∷ [] → row.parent ≡ Some m → row.host ≡ None → Under m n (tree m x s k r) row
  under_parent pos is e o =
      let one_n = apart n in
      let one_m = apart m in
      let n_path = path-children n m x s k r (grind (arith, nat_tests)) (grind (arith, nat_tests)) pos (grind (arith, nat_tests)) in
      let m_path = path-here m m x s k r refl in
      let part = tree_of-children n m x s k r (grind (arith, nat_tests)) (grind (arith, nat_tests)) (grind (arith, nat_tests)) in
      let less = times-without m n k (omega arith) in
      record { link = inl (e, o); inside = grind (arith, nat_tests); outside = rw part (grind (arith, nat_tests)); path_is = cc (n_path, m_path, is) }

pub step_up : (p h : Option ℕ) (n : ℕ) (f : Trees) (row : Spot) → IsApart f → 0 < times n f → spot_in p h n f ≡ Some row → Step p h n f row
step_up p h n none row apart pos is = absurd (omega arith)
step_up p h n (tree m x s k r) row apart pos is = elim (stands_where n m x s k r apart pos) [
  | here e _ _ _ ↦
      let same : spot_of x p h s k ≡ row = let it = spot-here p h n m x s k r e in cc in
      at_root (sym (ap (λ (v : Spot). v.parent) same)) (sym (ap (λ (v : Spot). v.host) same)) (path-here n m x s k r e)
  | in_shadow ne a b c ↦ elim (step_up None (Some m) n s row (apart-shadow m x s k r apart) a (sym (spot-shadow p h n m x s k r ne b c) ∙ is)) [
    | at_root e o z ↦ above m (under_host m x s k r apart n row a z e o)
    | above q u ↦ above q (under_shadow m x s k r apart q n row a u)
  ]
  | in_children ne a b c ↦ elim (step_up (Some m) None n k row (apart-children m x s k r apart) b (sym (spot-children p h n m x s k r ne a c) ∙ is)) [
    | at_root e o z ↦ above m (under_parent m x s k r apart n row b z e o)
    | above q u ↦ above q (under_children m x s k r apart q n row b u)
  ]
  | in_rest ne a b c ↦ elim (step_up p h n r row (apart-rest m x s k r apart) c (sym (spot-rest p h n m x s k r ne a b) ∙ is)) [
    | at_root e o z ↦ at_root e o (path-rest n m x s k r ne a b ∙ z)
    | above q u ↦ above q (under_rest m x s k r apart q n row c u)
  ]
]
