-- The loop that lists tree order.
use Rattle.std.proofs.Common.{◌≡◌, ℕ, true, ◌<◌, List, [], ◌∷◌, ◌++◌, Some, None, ap, sym, ◌∙◌, length, append_assoc}
use Rattle.node_trees.specs.Trees.{Trees}
use Rattle.node_trees.specs.Nodes.{IsNode, IsTidy}
use Rattle.node_trees.specs.Orders.{tree_order_of}
use Rattle.node_trees.specs.Paths.{is_among}
use Rattle.node_trees.specs.Spots.{after}
use Rattle.tree_laws.proofs.Children.{among-root, after-among, tree_order-apart}
use Rattle.tree_laws.proofs.Onward.{onward, onward-last, onward-step, onward-less}
use Rattle.tree_laws.proofs.Seeking.{onward-root}

-- what the loop keeps: `at` is in the tree, and what is listed with all from `at` on is the whole order
pub record Listing (f : Trees) (root at : ℕ) (out : List ℕ) : Type 0 where
  pub among : is_among at (tree_order_of f root) ≡ true
  pub is : out ++ onward at (tree_order_of f root) ≡ tree_order_of f root

module _ (f : Trees) (root : ℕ) (tidy : IsTidy f) (node : IsNode f root) where
  pub list-start : Listing f root root []
  list-start = record { among = among-root f root tidy node; is = onward-root f root [] tidy node }

  pub list-less : (at d : ℕ) → Some d ≡ after at (tree_order_of f root) → length (onward d (tree_order_of f root)) < length (onward at (tree_order_of f root))
  list-less at d e = onward-less at d (tree_order_of f root) (tree_order-apart f root tidy) (sym e)

  module _ (at : ℕ) (out : List ℕ) (l : Listing f root at out) where
    pub list-last : None ≡ after at (tree_order_of f root) → out ++ at ∷ [] ≡ tree_order_of f root
    list-last e = ap (λ v. out ++ v) (sym (onward-last at (tree_order_of f root) l.among (sym e))) ∙ l.is

    pub list-on : (d : ℕ) → Some d ≡ after at (tree_order_of f root) → Listing f root d (out ++ at ∷ [])
    list-on d e = record {
      among = after-among at d (tree_order_of f root) (sym e);
      is = append_assoc out (at ∷ []) (onward d (tree_order_of f root))
          ∙ ap (λ v. out ++ v) (sym (onward-step at d (tree_order_of f root) (tree_order-apart f root tidy) (sym e))) ∙ l.is;
    }
