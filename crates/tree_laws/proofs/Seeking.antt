-- The loop that looks for an ID along tree order.
use Rattle.std.proofs.Common.{◌≡◌, ℕ, true, false, ◌<◌, List, Option, Some, None, ap, sym, ◌∙◌, length}
use Rattle.std.specs.List.{find}
use Rattle.std.proofs.lemmas.Bool.Decides.{nat_tests}
use Rattle.std.proofs.Common.{arith}
use Rattle.node_trees.specs.Ids.{has_id, first_with_id}
use Rattle.node_trees.specs.Trees.{Trees}
use Rattle.node_trees.specs.Nodes.{IsNode, IsTidy}
use Rattle.node_trees.specs.Orders.{tree_order_of}
use Rattle.node_trees.specs.Paths.{is_among}
use Rattle.node_trees.specs.Spots.{facts_at, after}
use Rattle.tree_laws.proofs.InOrder.{member_is_node}
use Rattle.tree_laws.proofs.Children.{order-begins, among-root, after-among, tree_order-apart}
use Rattle.tree_laws.proofs.Onward.{onward, find-here, find-last, find-step, onward-less}

-- the first in the list whose ID this is
abbrev pub first_in : Trees → List ℕ → List ℕ → Option ℕ
first_in f id ms = find (λ m. has_id id (facts_at f m)) ms

-- What the loop keeps: `at` is in the tree, and the answer is that from `at` on
pub record Seeking (f : Trees) (root : ℕ) (id : List ℕ) (at : ℕ) : Type 0 where
  pub among : is_among at (tree_order_of f root) ≡ true
  pub is : first_with_id f root id ≡ first_in f id (onward at (tree_order_of f root))

-- how much is left
abbrev pub left_from : Trees → ℕ → ℕ → ℕ
left_from f root at = length (onward at (tree_order_of f root))

module _ (f : Trees) (root : ℕ) (id : List ℕ) (tidy : IsTidy f) (is : IsNode f root) where
  pub onward-root : onward root (tree_order_of f root) ≡ tree_order_of f root
  onward-root = let it = order-begins f root tidy is in rw it.is (grind (arith, nat_tests))

  pub seek-start : Seeking f root id root
  seek-start = record { among = among-root f root tidy is; is = sym (ap (first_in f id) onward-root) }

  module _ (at : ℕ) (s : Seeking f root id at) where
    pub seek-node : IsNode f at
    seek-node = member_is_node f root at tidy s.among

    pub seek-here : has_id id (facts_at f at) ≡ true → Some at ≡ first_with_id f root id
    seek-here h = sym (s.is ∙ find-here (λ m. has_id id (facts_at f m)) at (tree_order_of f root) s.among h)

    pub seek-last : has_id id (facts_at f at) ≡ false → None ≡ after at (tree_order_of f root) → None ≡ first_with_id f root id
    seek-last h e = sym (s.is ∙ find-last (λ m. has_id id (facts_at f m)) at (tree_order_of f root) s.among h (sym e))

    pub seek-on : (d : ℕ) → has_id id (facts_at f at) ≡ false → Some d ≡ after at (tree_order_of f root) → Seeking f root id d
    seek-on d h e = record {
      among = after-among at d (tree_order_of f root) (sym e);
      is = s.is ∙ find-step (λ m. has_id id (facts_at f m)) at d (tree_order_of f root) (tree_order-apart f root tidy) h (sym e);
    }

    pub seek-less : (d : ℕ) → Some d ≡ after at (tree_order_of f root) → left_from f root d < left_from f root at
    seek-less d e = onward-less at d (tree_order_of f root) (tree_order-apart f root tidy) (sym e)
