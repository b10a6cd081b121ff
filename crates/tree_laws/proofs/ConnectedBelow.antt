-- A node and all below it are connected together.
use Rattle.std.proofs.Common.{◌≡◌, ℕ, ◌<◌, List, [], ◌∷◌, ◌++◌, Some, ap, sym, ◌∙◌, arith, length}
use Rattle.std.specs.List.{All}
use Rattle.std.proofs.lemmas.List.Elements.{All-nil, All-cons, All-same, All-append}
use Rattle.std.proofs.lemmas.Bool.Decides.{nat_tests}
use Rattle.std.specs.Prelude.{unwrap_or}
use Rattle.node_trees.specs.Facts.{Facts, is_document}
use Rattle.node_trees.specs.Trees.{Trees, none, tree, tree_of}
use Rattle.node_trees.specs.Nodes.{times, IsNode, IsTidy}
use Rattle.node_trees.specs.Orders.{order, order_of}
use Rattle.node_trees.specs.Paths.{path, connected}
use Rattle.node_trees.specs.Spots.{kind_at, first_of}
use Rattle.tree_laws.proofs.Sums.{tidy-apart, apart-rest, here, in_shadow, in_children, in_rest, stands_where, times-without}
use Rattle.tree_laws.proofs.Pieces.{tree_of-here, tree_of-shadow, tree_of-children, tree_of-rest, path-here, path-shadow, path-children, path-rest, path-long}
use Rattle.tree_laws.proofs.AtNode.{node_stands}
use Rattle.node_trees.proofs.Weights.{IsApart}

-- each path to what is in the first tree of a list begins at its root
first_path : (i m : ℕ) (x : Facts) (s k r : Trees) → IsApart (tree m x s k r) → 0 < times i (tree m x s k none) → first_of (path i (tree m x s k r)) ≡ Some m
first_path i m x s k r apart low =
    let one = apart i in
    elim (stands_where i m x s k r apart (omega arith)) [
      | here e _ _ _ ↦ rw (path-here i m x s k r e) (ap Some (sym e))
      | in_shadow ne a b c ↦ rw (path-shadow i m x s k r ne a b c)
      | in_children ne a b c ↦ rw (path-children i m x s k r ne a b c)
      | in_rest ne a b c ↦ absurd (grind (arith, nat_tests))
    ]

-- in the tree of n each path begins where that of n does
first_shared : (n i : ℕ) (f : Trees) → IsApart f → 0 < times n f → 0 < times i (tree_of n f) → first_of (path i f) ≡ first_of (path n f)
first_shared n i none apart pos low = absurd (omega arith)
first_shared n i (tree m x s k r) apart pos low =
    let one_i = apart i in
    let one_n = apart n in
    elim (stands_where n m x s k r apart pos) [
      | here e _ _ _ ↦
          let is = tree_of-here n m x s k r e in
          first_path i m x s k r apart (rw is at low) ∙ sym (first_path n m x s k r apart (grind (arith, nat_tests)))
      | in_shadow ne a b c ↦
          let is = tree_of-shadow n m x s k r ne b c in
          let low : 0 < times i (tree_of n s) = rw is at low in
          let less = times-without i n s (omega arith) in
          first_path i m x s k r apart (omega arith) ∙ sym (first_path n m x s k r apart (omega arith))
      | in_children ne a b c ↦
          let is = tree_of-children n m x s k r ne a c in
          let low : 0 < times i (tree_of n k) = rw is at low in
          let less = times-without i n k (omega arith) in
          first_path i m x s k r apart (omega arith) ∙ sym (first_path n m x s k r apart (omega arith))
      | in_rest ne a b c ↦
          let is = tree_of-rest n m x s k r ne a b in
          let low : 0 < times i (tree_of n r) = rw is at low in
          let less = times-without i n r (omega arith) in
          ap first_of (path-rest i m x s k r (grind (arith, nat_tests)) (grind (arith, nat_tests)) (grind (arith, nat_tests)))
          ∙ first_shared n i r (apart-rest m x s k r apart) c low
          ∙ ap first_of (sym (path-rest n m x s k r ne a b))
    ]

pub same_first : (xs ys : List ℕ) (i j : ℕ) → 0 < length xs → first_of xs ≡ first_of ys → unwrap_or (first_of xs) i ≡ unwrap_or (first_of ys) j
same_first [] ys i j pos e = absurd (omega arith)
same_first (x ∷ xs) ys i j pos e = ap (λ v. unwrap_or v j) e

-- the shadow-including order of trees has their nodes alone
all_in_order : (P : ℕ → Type 0) (g : Trees) → ((i : ℕ) → 0 < times i g → P i) → All P (order g)
all_in_order P none each = All-nil P
all_in_order P (tree m x s k r) each =
    All-cons P m (order s ++ (order k ++ order r)) (each m (grind (arith, nat_tests)))
    (All-append P (order s) (order k ++ order r) (all_in_order P s (λ i pos. each i (omega arith)))
    (All-append P (order k) (order r) (all_in_order P k (λ i pos. each i (omega arith))) (all_in_order P r (λ i pos. each i (omega arith)))))

module _ (f : Trees) (n : ℕ) (tidy : IsTidy f) (node : IsNode f n) where
  pub connected-below : (i : ℕ) → 0 < times i (tree_of n f) → connected f i ≡ connected f n
  connected-below i low =
      let apart = tidy-apart f tidy in
      let stands = node_stands f n tidy node in
      let within = times-without i n f (apart n) in
      ap (λ v. is_document (kind_at f v)) (same_first (path i f) (path n f) i n (path-long i f (omega arith)) (first_shared n i f apart stands low))

  connected-order : All (λ m. connected f m ≡ connected f n) (order_of f n)
  connected-order = all_in_order (λ m. connected f m ≡ connected f n) (tree_of n f) connected-below

-- the same of the nodes that a walk has put out, which knows the forest to be tidy where it has put out one
pub all_connected : (f : Trees) (n : ℕ) (out : List ℕ) → IsNode f n → (0 < length out → IsTidy f) → out ≡ order_of f n
    → All (λ m. connected f m ≡ connected f n) out
all_connected f n [] node tidy is = All-nil (λ m. connected f m ≡ connected f n)
all_connected f n (m ∷ ms) node tidy is =
    All-same (λ m. connected f m ≡ connected f n) (m ∷ ms) (order_of f n) is (connected-order f n (tidy (omega arith)) node)
