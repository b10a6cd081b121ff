-- What a test finds in a tree order is what it finds in one tree of it, where it finds nothing without that tree.
use Rattle.std.proofs.Common.{◌≡◌, ℕ, Bool, true, cond, [], ◌∷◌, ◌++◌, ◌||◌, sym, ap, ◌∙◌, arith, inl, inr, append-nil}
use Rattle.std.proofs.lemmas.Bool.{cases_eq, or_cases}
use Rattle.std.proofs.lemmas.Bool.Decides.{nat_tests}
use Rattle.node_trees.specs.Trees.{Trees, none, tree, tree_of, without}
use Rattle.node_trees.specs.Orders.{tree_order}
use Rattle.node_trees.specs.Paths.{is_among}
use Rattle.node_trees.proofs.Absent.{is_among-append, without-absent}
use Rattle.node_trees.proofs.Weights.{IsApart}
use Rattle.tree_laws.proofs.InOrder.{order-inside}
use Rattle.tree_laws.proofs.Pieces.{tree_of-here, tree_of-children, tree_of-rest}
use Rattle.tree_laws.proofs.Sums.{apart-children, apart-rest}
use Rattle.above_reading.proofs.Kept.{found_in, found-tree, finds-none}

module _ (q : ℕ → Bool) where
  -- n stands in the tree order
  pub found-only : (n : ℕ) (f : Trees) → IsApart f → is_among n (tree_order f) ≡ true → found_in q (without n f) ≡ [] → found_in q f ≡ found_in q (tree_of n f)
  found-only n none apart among z = absurd cc
  found-only n (tree m x s k r) apart among z =
      let one = apart n in
      elim (cases_eq m n) [
        | inl e ↦
            let left : without n (tree m x s k r) ≡ r = grind (arith, nat_tests) in
            let gone : found_in q r ≡ [] = rw left at z in
            rw (tree_of-here n m x s k r e) (found-tree q m x s k r ∙ ap (λ v. cond (q m) (m ∷ (found_in q k ++ v)) (found_in q k ++ v)) gone
            ∙ sym (found-tree q m x s k none))
        | inr ne ↦
            let left : without n (tree m x s k r) ≡ tree m x (without n s) (without n k) (without n r) = grind (arith, nat_tests) in
            let none_left = finds-none q m x (without n s) (without n k) (without n r) (rw left at z) in
            let fails = none_left.fails in
            let start : found_in q (tree m x s k r) ≡ found_in q k ++ found_in q r =
            found-tree q m x s k r ∙ ap (λ b. cond b (m ∷ (found_in q k ++ found_in q r)) (found_in q k ++ found_in q r)) fails in
            let there : (is_among n (tree_order k) || is_among n (tree_order r)) ≡ true =
            grind (arith, nat_tests, is_among-append n (tree_order k) (tree_order r)) in
            elim (or_cases (is_among n (tree_order k)) (is_among n (tree_order r)) there) [
              | inl a ↦
                  let low = order-inside n k a in
                  let gone : found_in q r ≡ [] = ap (found_in q) (sym (without-absent n r (grind (arith, nat_tests)))) ∙ none_left.rest in
                  start ∙ ap (λ v. found_in q k ++ v) gone ∙ append-nil (found_in q k) ∙ found-only n k (apart-children m x s k r apart) a none_left.children
                  ∙ ap (found_in q) (sym (tree_of-children n m x s k r ne (grind (arith, nat_tests)) (grind (arith, nat_tests))))
              | inr b ↦
                  let low = order-inside n r b in
                  let gone : found_in q k ≡ [] = ap (found_in q) (sym (without-absent n k (grind (arith, nat_tests)))) ∙ none_left.children in
                  start ∙ ap (λ v. v ++ found_in q r) gone ∙ found-only n r (apart-rest m x s k r apart) b none_left.rest
                  ∙ ap (found_in q) (sym (tree_of-rest n m x s k r ne (grind (arith, nat_tests)) (grind (arith, nat_tests))))
            ]
      ]
