-- Where kinds fit, in trees side by side and after a tree was taken out.
use Rattle.std.proofs.Common.{◌≡◌, ℕ, Bool, true, false, not, ◌||◌, ◌+◌, ◌<◌, ◌≤◌, ◌==◌, if◌then◌else◌, Option, Some, None, refl, ap, sym, ◌∙◌, arith, inl, inr}
use Rattle.std.proofs.lemmas.Bool.Decides.{nat_tests}
use Rattle.std.proofs.lemmas.Bool.{cases_eq}
use Rattle.node_trees.specs.Facts.{Facts, is_element, is_text}
use Rattle.node_trees.specs.Trees.{Trees, none, tree, join, tree_of, without, place, before}
use Rattle.node_trees.specs.Nodes.{weight, times, Place, InShadow, AsChild, fits, is_none, unless, misfits}
use Rattle.node_trees.specs.Spots.{Spot, spot_of, spot_in}
use Rattle.tree_laws.proofs.Sums.{apart-shadow, apart-children, apart-rest, here, in_shadow, in_children, in_rest, stands_where}
use Rattle.tree_laws.proofs.Pieces.{spot-here, spot-shadow, spot-children, spot-rest, tree_of-here, tree_of-shadow, tree_of-children, tree_of-rest}
use Rattle.node_trees.proofs.Weights.{IsApart}

-- ---- what is counted at one node

abbrev pub only_at : ℕ → (Facts → ℕ) → ℕ → Facts → ℕ
only_at n w m x = if m == n then w x else 0

module _ (n : ℕ) (w : Facts → ℕ) where
  pub only-absent : (f : Trees) → times n f ≡ 0 → weight (only_at n w) f ≡ 0
  only-absent none z = refl
  only-absent (tree m x s k r) z = grind (arith, nat_tests, only-absent s (omega arith), only-absent k (omega arith), only-absent r (omega arith))

  pub only-there : (p h : Option ℕ) (f : Trees) (row : Spot) → IsApart f → 0 < times n f → spot_in p h n f ≡ Some row → weight (only_at n w) f ≡ w row.facts
  only-there p h none row apart pos is = absurd (omega arith)
  only-there p h (tree m x s k r) row apart pos is = elim (stands_where n m x s k r apart pos) [
    | here e a b c ↦
        let same : spot_of x p h s k ≡ row = let it = spot-here p h n m x s k r e in cc in
        let facts : x ≡ row.facts = ap (λ (v : Spot). v.facts) same in
        rw (← facts) (grind (arith, nat_tests, only-absent s a, only-absent k b, only-absent r c))
    | in_shadow ne a b c ↦
        let on = only-there None (Some m) s row (apart-shadow m x s k r apart) a (sym (spot-shadow p h n m x s k r ne b c) ∙ is) in
        grind (arith, nat_tests, on, only-absent k b, only-absent r c)
    | in_children ne a b c ↦
        let on = only-there (Some m) None k row (apart-children m x s k r apart) b (sym (spot-children p h n m x s k r ne a c) ∙ is) in
        grind (arith, nat_tests, on, only-absent s a, only-absent r c)
    | in_rest ne a b c ↦
        let on = only-there p h r row (apart-rest m x s k r apart) c (sym (spot-rest p h n m x s k r ne a b) ∙ is) in
        grind (arith, nat_tests, on, only-absent s a, only-absent k b)
  ]

-- ---- trees side by side

pub misfits-join : (at : Place) (f g : Trees) → misfits at (join f g) ≡ misfits at f + misfits at g
misfits-join at none g = omega arith
misfits-join at (tree m x s k r) g = omega (arith, misfits-join at r g)

pub misfits-before : (at : Place) (b : Option ℕ) (t f : Trees) → misfits at (before b t f) ≡ misfits at t + misfits at f
misfits-before at b t none = omega arith
misfits-before at b t (tree m x s k r) = grind (arith, misfits-join at t (tree m x s k r), misfits-before at b t r)

pub misfits-place : (at : Place) (n : ℕ) (t f : Trees) → misfits at (place n t f) ≡ misfits at t + misfits at f
misfits-place at n t none = omega arith
misfits-place at n t (tree m x s k r) = grind (arith, misfits-join at t (tree m x s k r), misfits-place at n t r)

-- ---- a tree taken out

unless-more : (a b : Bool) → (a ≡ true → b ≡ true) → unless b ≤ unless a
unless-more true b h = let e = h refl in grind (arith, e)
unless-more false true h = omega arith
unless-more false false h = omega arith

none-without : (n : ℕ) (f : Trees) (c : Bool) → (is_none f || c) ≡ true → (is_none (without n f) || c) ≡ true
none-without n none c h = h
none-without n (tree m x s k r) true h = grind arith
none-without n (tree m x s k r) false h = absurd cc

pub misfits-without : (at : Place) (n : ℕ) (f : Trees) → misfits at (without n f) ≤ misfits at f
misfits-without at n none = omega arith
misfits-without at n (tree m x s k r) = elim (cases_eq m n) [
  | inl e ↦
      let is : without n (tree m x s k r) ≡ r = grind (arith, nat_tests) in
      rw is (omega arith)
  | inr ne ↦
      let is : without n (tree m x s k r) ≡ tree m x (without n s) (without n k) (without n r) = grind (arith, nat_tests) in
      rw is (omega (
        arith,
        misfits-without InShadow n s,
        misfits-without AsChild n k,
        misfits-without at n r,
        unless-more (is_none s || is_element x.kind) (is_none (without n s) || is_element x.kind) (none-without n s (is_element x.kind)),
        unless-more (is_none k || not (is_text x.kind)) (is_none (without n k) || not (is_text x.kind)) (none-without n k (not (is_text x.kind))),
      ))
]

-- of the tree of n only n itself may stand amiss
pub misfits-tree_of : (at to : Place) (p h : Option ℕ) (n : ℕ) (f : Trees) (row : Spot) → IsApart f → 0 < times n f → misfits at f ≡ 0
    → spot_in p h n f ≡ Some row → misfits to (tree_of n f) ≡ unless (fits to row.facts.kind)
misfits-tree_of at to p h n none row apart pos z is = absurd (omega arith)
misfits-tree_of at to p h n (tree m x s k r) row apart pos z is = elim (stands_where n m x s k r apart pos) [
  | here e a b c ↦
      let same : spot_of x p h s k ≡ row = let it = spot-here p h n m x s k r e in cc in
      let facts : x ≡ row.facts = ap (λ (v : Spot). v.facts) same in
      rw (← facts, tree_of-here n m x s k r e) (omega arith)
  | in_shadow ne a b c ↦ rw (tree_of-shadow n m x s k r ne b c)
      (misfits-tree_of InShadow to None (Some m) n s row (apart-shadow m x s k r apart) a (omega arith) (sym (spot-shadow p h n m x s k r ne b c) ∙ is))
  | in_children ne a b c ↦ rw (tree_of-children n m x s k r ne a c)
      (misfits-tree_of AsChild to (Some m) None n k row (apart-children m x s k r apart) b (omega arith) (sym (spot-children p h n m x s k r ne a c) ∙ is))
  | in_rest ne a b c ↦ rw (tree_of-rest n m x s k r ne a b)
      (misfits-tree_of at to p h n r row (apart-rest m x s k r apart) c (omega arith) (sym (spot-rest p h n m x s k r ne a b) ∙ is))
]
