-- The tree of a node, in a part of the trees and in the whole.
use Rattle.std.proofs.Common.{◌≡◌, ℕ, ◌<◌, ◌∙◌, arith}
use Rattle.std.proofs.lemmas.Bool.Decides.{nat_tests}
use Rattle.node_trees.specs.Trees.{Trees, none, tree, tree_of}
use Rattle.node_trees.specs.Nodes.{times}
use Rattle.tree_laws.proofs.Sums.{apart-shadow, apart-children, apart-rest, here, in_shadow, in_children, in_rest, stands_where, times-without}
use Rattle.tree_laws.proofs.Pieces.{tree_of-absent, tree_of-here, tree_of-shadow, tree_of-children, tree_of-rest}
use Rattle.node_trees.proofs.Weights.{IsApart}

-- a tree in the tree of n is that of the whole
pub tree_of-inside : (n i : ℕ) (f : Trees) → IsApart f → 0 < times n f → 0 < times i (tree_of n f) → tree_of i f ≡ tree_of i (tree_of n f)
tree_of-inside n i none apart pos low = absurd (omega arith)
tree_of-inside n i (tree m x s k r) apart pos low =
    let one_i = apart i in
    let one_n = apart n in
    elim (stands_where n m x s k r apart pos) [
      | here e _ _ _ ↦
          let is = tree_of-here n m x s k r e in
          let low : 0 < times i (tree m x s k none) = rw is at low in
          rw is (grind (arith, nat_tests, tree_of-absent i r (omega arith)))
      | in_shadow ne a b c ↦
          let is = tree_of-shadow n m x s k r ne b c in
          let low : 0 < times i (tree_of n s) = rw is at low in
          let less = times-without i n s (omega arith) in
          rw is (tree_of-shadow i m x s k r (grind (arith, nat_tests)) (grind (arith, nat_tests)) (grind (arith, nat_tests))
          ∙ tree_of-inside n i s (apart-shadow m x s k r apart) a low)
      | in_children ne a b c ↦
          let is = tree_of-children n m x s k r ne a c in
          let low : 0 < times i (tree_of n k) = rw is at low in
          let less = times-without i n k (omega arith) in
          rw is (tree_of-children i m x s k r (grind (arith, nat_tests)) (grind (arith, nat_tests)) (grind (arith, nat_tests))
          ∙ tree_of-inside n i k (apart-children m x s k r apart) b low)
      | in_rest ne a b c ↦
          let is = tree_of-rest n m x s k r ne a b in
          let low : 0 < times i (tree_of n r) = rw is at low in
          let less = times-without i n r (omega arith) in
          rw is (tree_of-rest i m x s k r (grind (arith, nat_tests)) (grind (arith, nat_tests)) (grind (arith, nat_tests))
          ∙ tree_of-inside n i r (apart-rest m x s k r apart) c low)
    ]

-- the trees in g are those of f
abbrev pub IsPart : Trees → Trees → Type 0
IsPart f g = (i : ℕ) → 0 < times i g → tree_of i f ≡ tree_of i g
