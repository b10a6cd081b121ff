-- The loop that lists shadow-including tree order.
use Rattle.std.proofs.Common.{◌≡◌, ℕ, ◌<◌, List, [], ◌∷◌, ◌++◌, Some, None, ap, sym, ◌∙◌, arith, length, append_assoc}
use Rattle.std.specs.Prelude.{All}
use Rattle.std.proofs.lemmas.Bool.Decides.{nat_tests}
use Rattle.std.proofs.lemmas.List.Elements.{All-nil, All-cons, All-append, All-same}
use Rattle.node_trees.specs.Trees.{Trees, none, tree, tree_of}
use Rattle.node_trees.specs.Nodes.{times, IsNode, IsTidy}
use Rattle.node_trees.specs.Orders.{order, order_of}
use Rattle.node_trees.specs.Spots.{after}
use Rattle.tree_laws.proofs.Children.{after-among}
use Rattle.tree_laws.proofs.Counts.{AreApart}
use Rattle.tree_laws.proofs.CutReads.{in-tree}
use Rattle.tree_laws.proofs.Onward.{onward, onward-last, onward-step, onward-less}
use Rattle.tree_laws.proofs.Past.{in_order}
use Rattle.tree_laws.proofs.PastIn.{its_tree, inside-node}
use Rattle.tree_laws.proofs.Sums.{tidy-apart}
use Rattle.tree_laws.proofs.Walked.{order-apart, order-has}

-- what the loop keeps: `at` is in the tree, and what is listed with all from `at` on is the whole order
pub record Listing (f : Trees) (root at : ℕ) (out : List ℕ) : Type 0 where
  pub inside : 0 < times at (tree_of root f)
  pub is : out ++ onward at (order_of f root) ≡ order_of f root

-- how much is left
abbrev pub left_from : Trees → ℕ → ℕ → ℕ
left_from f root at = length (onward at (order_of f root))

module _ (f : Trees) (root : ℕ) (tidy : IsTidy f) (node : IsNode f root) where
  apart : AreApart (order_of f root)
  apart = order-apart root f (tidy-apart f tidy)

  pub list-start : Listing f root root []
  list-start = record { inside = in-tree f root tidy node; is = let e = (its_tree f root tidy node).tree_is in rw e (grind (arith, nat_tests)) }

  pub list-less : (at d : ℕ) → Some d ≡ after at (order_of f root) → left_from f root d < left_from f root at
  list-less at d e = onward-less at d (order_of f root) apart (sym e)

  module _ (at : ℕ) (out : List ℕ) (l : Listing f root at out) where
    pub list-last : None ≡ after at (order_of f root) → out ++ at ∷ [] ≡ order_of f root
    list-last e = ap (λ v. out ++ v) (sym (onward-last at (order_of f root) (order-has at (tree_of root f) l.inside) (sym e))) ∙ l.is

    pub list-on : (d : ℕ) → Some d ≡ after at (order_of f root) → Listing f root d (out ++ at ∷ [])
    list-on d e = record {
      inside = in_order d (tree_of root f) (after-among at d (order_of f root) (sym e));
      is = append_assoc out (at ∷ []) (onward d (order_of f root)) ∙ ap (λ v. out ++ v) (sym (onward-step at d (order_of f root) apart (sym e))) ∙ l.is;
    }

  all_nodes : (g : Trees) → ((i : ℕ) → 0 < times i g → IsNode f i) → All (IsNode f) (order g)
  all_nodes none each = All-nil (IsNode f)
  all_nodes (tree m x s k r) each =
      All-cons (IsNode f) m (order s ++ (order k ++ order r)) (each m (grind (arith, nat_tests)))
      (All-append (IsNode f) (order s) (order k ++ order r) (all_nodes s (λ i low. each i (omega arith)))
      (All-append (IsNode f) (order k) (order r) (all_nodes k (λ i low. each i (omega arith))) (all_nodes r (λ i low. each i (omega arith)))))

  pub listed-nodes : (out : List ℕ) → out ≡ order_of f root → All (IsNode f) out
  listed-nodes out e = All-same (IsNode f) out (order_of f root) e (all_nodes (tree_of root f) (inside-node f root tidy node))
