-- What a tree order keeps where a tree is taken out: all of it that a test finds, where the test finds nothing
-- in that tree.
use Rattle.std.proofs.Common.{◌≡◌, ℕ, Bool, true, false, cond, List, [], ◌∷◌, ◌++◌, refl, sym, ap, ◌∙◌, arith, inl, inr}
use Rattle.std.specs.Prelude.{filter}
use Rattle.std.proofs.lemmas.Bool.{cases_eq, cases_lt}
use Rattle.std.proofs.lemmas.Bool.Decides.{nat_tests}
use Rattle.std.proofs.lemmas.List.Elements.{filter-append}
use Rattle.node_trees.specs.Facts.{Facts}
use Rattle.node_trees.specs.Trees.{Trees, none, tree, join, tree_of, without, cut}
use Rattle.node_trees.specs.Nodes.{times}
use Rattle.node_trees.specs.Orders.{tree_order, tree_order_of}
use Rattle.node_trees.proofs.Weights.{IsApart}
use Rattle.tree_laws.proofs.Pieces.{tree_of-absent, tree_of-here}
use Rattle.tree_laws.proofs.NewNode.{tree_order-join}
use Rattle.tree_laws.proofs.OrderSteps.{tree_of-inside}
use Rattle.above_reading.proofs.Aside.{tree_of-without, tree_of-place}

-- what a test finds

both-empty : (xs ys : List ℕ) → xs ++ ys ≡ [] → (xs ≡ []) × (ys ≡ [])
both-empty [] ys e = (refl, e)
both-empty (x ∷ xs) ys e = absurd cc

module _ (q : ℕ → Bool) where
  abbrev pub found_in : Trees → List ℕ
  found_in f = filter q (tree_order f)

  found-join : (f g : Trees) → found_in (join f g) ≡ found_in f ++ found_in g
  found-join f g = ap (filter q) (tree_order-join f g) ∙ filter-append q (tree_order f) (tree_order g)

  pub found-tree : (m : ℕ) (x : Facts) (s k r : Trees) → found_in (tree m x s k r) ≡ cond (q m) (m ∷ (found_in k ++ found_in r)) (found_in k ++ found_in r)
  found-tree m x s k r = ap (λ v. cond (q m) (m ∷ v) v) (filter-append q (tree_order k) (tree_order r))

  -- where nothing is found, not the first root either, and nothing below it or beside it
  pub record FindsNone (m : ℕ) (k r : Trees) : Type 0 where
    pub fails : q m ≡ false
    pub children : found_in k ≡ []
    pub rest : found_in r ≡ []

  pub finds-none : (m : ℕ) (x : Facts) (s k r : Trees) → found_in (tree m x s k r) ≡ [] → FindsNone m k r
  finds-none m x s k r z = by_test (q m) refl (sym (found-tree m x s k r) ∙ z)
    where
      by_test : (b : Bool) → q m ≡ b → cond (q m) (m ∷ (found_in k ++ found_in r)) (found_in k ++ found_in r) ≡ [] → FindsNone m k r
      by_test true e i = let j : m ∷ (found_in k ++ found_in r) ≡ [] = rw e at i in absurd cc
      by_test false e i =
          let j : found_in k ++ found_in r ≡ [] = rw e at i in
          let both = both-empty (found_in k) (found_in r) j in
          record { fails = e; children = both.0; rest = both.1 }

  found-without : (n : ℕ) (f : Trees) → found_in (tree_of n f) ≡ [] → found_in (without n f) ≡ found_in f
  found-without n none z = refl
  found-without n (tree m x s k r) z = elim (cases_eq m n) [
    | inl e ↦
        let here = tree_of-here n m x s k r e in
        let none_here = finds-none m x s k none (rw here at z) in
        let fails = none_here.fails in
        let empty = none_here.children in
        grind (arith, nat_tests, found-tree m x s k r, fails, empty)
    | inr ne ↦
        let parts : tree_of n (tree m x s k r) ≡ join (tree_of n s) (join (tree_of n k) (tree_of n r)) = grind (arith, nat_tests) in
        let z_parts : found_in (join (tree_of n s) (join (tree_of n k) (tree_of n r))) ≡ [] = rw parts at z in
        let z_two = (both-empty (found_in (tree_of n s)) (found_in (join (tree_of n k) (tree_of n r)))
        (sym (found-join (tree_of n s) (join (tree_of n k) (tree_of n r))) ∙ z_parts)).1 in
        let z_each = both-empty (found_in (tree_of n k)) (found_in (tree_of n r)) (sym (found-join (tree_of n k) (tree_of n r)) ∙ z_two) in
        grind (
          arith,
          nat_tests,
          found-tree m x s k r,
          found-tree m x (without n s) (without n k) (without n r),
          found-without n k z_each.0,
          found-without n r z_each.1,
        )
  ]

  -- the law: what is found in the tree of r stays, where a tree without r is taken out in which nothing is found

  module _ (f : Trees) (n r : ℕ) (apart : IsApart f) (outside : times r (tree_of n f) ≡ 0) (nothing : found_in (tree_of n f) ≡ []) where
    in-part : found_in (tree_of n (tree_of r f)) ≡ []
    in-part = elim (cases_lt 0 (times n (tree_of r f))) [
      | inl low ↦ elim (cases_lt 0 (times r f)) [
        | inl there ↦ ap found_in (sym (tree_of-inside r n f apart there low)) ∙ nothing
        | inr away ↦ let gone : tree_of r f ≡ none = tree_of-absent r f (omega arith) in ap (λ t. found_in (tree_of n t)) gone
      ]
      | inr out ↦ ap found_in (tree_of-absent n (tree_of r f) (omega arith))
    ]

    left : found_in (tree_of r (without n f)) ≡ filter q (tree_order_of f r)
    left = ap found_in (tree_of-without r n f apart outside) ∙ found-without n (tree_of r f) in-part

    pub kept-cut : filter q (tree_order_of (cut f n) r) ≡ filter q (tree_order_of f r)
    kept-cut = ap found_in (tree_of-place r n (tree_of n f) (without n f) outside) ∙ left
