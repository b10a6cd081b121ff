-- Trees in which the facts of one node are others, but its local name, its kind and its attributes are the same.
use Rattle.std.proofs.Common.{◌≡◌, ℕ, List, refl, arith}
use Rattle.std.proofs.lemmas.Bool.Decides.{nat_tests}
use Rattle.node_trees.specs.Facts.{Facts}
use Rattle.node_trees.specs.Trees.{Trees, none, tree, join, tree_of, with_facts}
use Rattle.node_trees.specs.Nodes.{times}
use Rattle.node_trees.specs.Orders.{tree_order, tree_order_of}
use Rattle.tree_laws.specs.Alike.{AreAlike}
use Rattle.tree_laws.proofs.Changed.{path-with}
use Rattle.tree_laws.proofs.ChangedReads.{read-with, parent_at-with, children_at-with, kind_at-with}
use Rattle.tree_laws.proofs.NewNode.{tree_order-join}

module _ (n : ℕ) (c : Facts → Facts) where
  order-with : (f : Trees) → tree_order (with_facts n c f) ≡ tree_order f
  order-with none = refl
  order-with (tree m x s k r) = grind (arith, nat_tests, order-with k, order-with r)

  pub order_of-with : (i : ℕ) (f : Trees) → tree_order_of (with_facts n c f) i ≡ tree_order_of f i
  order_of-with i none = refl
  order_of-with i (tree m x s k r) =
      grind (
        arith,
        nat_tests,
        order_of-with i s,
        order_of-with i k,
        order_of-with i r,
        order-with k,
        tree_order-join (tree_of i (with_facts n c s)) (join (tree_of i (with_facts n c k)) (tree_of i (with_facts n c r))),
        tree_order-join (tree_of i (with_facts n c k)) (tree_of i (with_facts n c r)),
        tree_order-join (tree_of i s) (join (tree_of i k) (tree_of i r)),
        tree_order-join (tree_of i k) (tree_of i r),
      )

  -- free is any number that no node has
  pub alike_facts : (f : Trees) (free : ℕ) → times free f ≡ 0 → ((x : Facts) → (c x).local ≡ x.local) → ((x : Facts) → (c x).kind ≡ x.kind)
      → ((x : Facts) → (c x).attributes ≡ x.attributes) → AreAlike free f (with_facts n c f)
  alike_facts f free z local kind attributes = record {
    free = z;
    local = λ i ne. read-with n c f (List ℕ) (λ s. s.facts.local) (λ s. local s.facts) i;
    kind = λ i ne. kind_at-with n c f kind i;
    attributes = read-with n c f (List (List ℕ × List ℕ)) (λ s. s.facts.attributes) (λ s. attributes s.facts);
    parent = parent_at-with n c f;
    children = children_at-with n c f;
    path_is = λ i ne. path-with n c i f;
    order = λ i ne. order_of-with i f;
  }
