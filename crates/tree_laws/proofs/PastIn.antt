-- What is past a node in the shadow-including order of one node's tree, by the reads of the forest.
use Rattle.std.proofs.Common.{◌≡◌, ◌≢◌, ℕ, ◌<◌, Option, Some, None, ap, sym, ◌∙◌, subst, arith}
use Rattle.std.proofs.lemmas.Bool.Decides.{nat_tests}
use Rattle.std.specs.Option.{option_or}
use Rattle.node_trees.specs.Trees.{Trees, tree_of}
use Rattle.node_trees.specs.Nodes.{times, IsNode, IsTidy}
use Rattle.node_trees.specs.Orders.{order_of}
use Rattle.node_trees.specs.Spots.{Spot, spot, spot_at, spot_of, spot_in, parent_at, host_at, shadow_at, first_child_at, next_sibling_at, first_of, after}
use Rattle.node_trees.proofs.Weights.{IsApart}
use Rattle.tree_laws.proofs.Above.{IsAbove, nothing, a_parent, a_host, row_above}
use Rattle.tree_laws.proofs.AtNode.{node_stands, spot_at-is, next_sibling_at-is}
use Rattle.tree_laws.proofs.Inside.{Found, found, tree_apart}
use Rattle.tree_laws.proofs.Past.{past, next_is, Up, by_parent, by_host, climb_tree}
use Rattle.tree_laws.proofs.Sums.{tidy-apart, times-without}

abbrev pub past_in : Trees → ℕ → ℕ → Option ℕ
past_in f root n = past n (tree_of root f)

-- n stands below q, which is in the tree too
pub data Past (f : Trees) (root n : ℕ) : Type 0 where
  of_parent : (q : ℕ) → parent_at f n ≡ Some q → 0 < times q (tree_of root f) → IsAbove f q n
      → past_in f root n ≡ option_or (next_sibling_at f n) (past_in f root q) → Past f root n
  of_host : (q : ℕ) → parent_at f n ≡ None → host_at f n ≡ Some q → 0 < times q (tree_of root f) → IsAbove f q n
      → past_in f root n ≡ option_or (after n (spot_at f q).shadow) (option_or (first_child_at f q) (past_in f root q)) → Past f root n

module _ (f : Trees) (root : ℕ) (tidy : IsTidy f) (is : IsNode f root) where
  pub its_tree : Found None None root f
  its_tree = found None None root f (tidy-apart f tidy) (node_stands f root tidy is)

  pub inside-node : (n : ℕ) → 0 < times n (tree_of root f) → IsNode f n
  inside-node n low = tidy.only n (omega (arith, low, times-without n root f (tidy-apart f tidy root)))

  row_of : (n : ℕ) → 0 < times n (tree_of root f) → (row : Spot) × (spot f n ≡ Some row) × (spot_in its_tree.parent its_tree.host n (tree_of root f) ≡ Some row)
  row_of n low =
      let it = found its_tree.parent its_tree.host n (tree_of root f) (tree_apart root f (tidy-apart f tidy)) low in
      (spot_of it.facts it.parent it.host it.shadow it.children, its_tree.inside n low ∙ it.spot_is, it.spot_is)

  -- next is its shadow root, or else its first child; where it has neither, what is past it
  pub after-is : (n : ℕ) → 0 < times n (tree_of root f)
      → after n (order_of f root) ≡ option_or (shadow_at f n) (option_or (first_child_at f n) (past_in f root n))
  after-is n low =
      let row = row_of n low in
      next_is its_tree.parent its_tree.host n (tree_of root f) row.0 (tree_apart root f (tidy-apart f tidy)) low row.2
      ∙ ap (λ (s : Spot). option_or (first_of s.shadow) (option_or (first_of s.children) (past_in f root n))) (sym (spot_at-is f n row.0 row.1))

  -- nothing is past the root
  pub past-root : past_in f root root ≡ None
  past-root = let e = its_tree.tree_is in rw e (grind (arith, nat_tests))

  -- past another is what stands behind it under its parent or host, or else what is past that one
  pub past-is : (n : ℕ) → n ≢ root → 0 < times n (tree_of root f) → Past f root n
  past-is n ne low =
      let row = row_of n low in
      let here = spot_at-is f n row.0 row.1 in
      let above = row_above f n row.0 tidy (inside-node n low) row.1 in
      let e = its_tree.tree_is in
      let on : Up its_tree.parent its_tree.host n (tree_of root f) row.0 =
      subst (λ (t : Trees). IsApart t → 0 < times n t → spot_in its_tree.parent its_tree.host n t ≡ Some row.0 → Up its_tree.parent its_tree.host n t row.0)
      (sym e)
      (λ a o w. climb_tree its_tree.parent its_tree.host n root its_tree.facts its_tree.shadow its_tree.children row.0 a (λ v. ne (sym v)) o w)
      (tree_apart root f (tidy-apart f tidy)) low row.2 in
      elim on [
        | by_parent q up p o there at z ↦
            let parent : parent_at f n ≡ Some q = ap (λ (s : Spot). s.parent) here ∙ p in
            let over : IsAbove f q n = elim above [
              | nothing p2 o2 path ↦ absurd cc
              | a_parent q2 p2 o2 u2 ↦ let same : q2 ≡ q = cc in subst (λ v. IsAbove f v n) same u2
              | a_host q2 p2 o2 u2 ↦ absurd cc
            ] in
            of_parent q parent there over (rw (next_sibling_at-is f n q up parent (its_tree.inside q there ∙ at)) z)
        | by_host q up p o there at z ↦
            let over : IsAbove f q n = elim above [
              | nothing p2 o2 path ↦ absurd cc
              | a_parent q2 p2 o2 u2 ↦ absurd cc
              | a_host q2 p2 o2 u2 ↦ let same : q2 ≡ q = cc in subst (λ v. IsAbove f v n) same u2
            ] in
            let up_is = spot_at-is f q up (its_tree.inside q there ∙ at) in
            of_host q (ap (λ (s : Spot). s.parent) here ∙ p) (ap (λ (s : Spot). s.host) here ∙ o) there over
            (z ∙ ap (λ (s : Spot). option_or (after n s.shadow) (option_or (first_of s.children) (past_in f root q))) (sym up_is))
      ]
