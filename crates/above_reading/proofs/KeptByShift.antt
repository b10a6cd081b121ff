-- What is found in the order of a tree that another tree moves beside, in the words of the orders.
use Rattle.std.proofs.Common.{◌≡◌, ℕ, Bool, true, false, List, sym, ◌∙◌}
use Rattle.std.specs.Prelude.{filter}
use Rattle.node_trees.specs.Trees.{Trees, tree_of}
use Rattle.node_trees.specs.Ids.{has_id, first_with_id}
use Rattle.node_trees.specs.Orders.{order_of, tree_order_of}
use Rattle.node_trees.specs.Paths.{is_among}
use Rattle.node_trees.specs.Spots.{facts_at}
use Rattle.tree_laws.proofs.Counts.{absent-count}
use Rattle.tree_laws.proofs.Walked.{count-order}
use Rattle.above_reading.proofs.FirstWithId.{named-same}
use Rattle.above_reading.proofs.Shift.{IsShift}
use Rattle.above_reading.proofs.Tests.{filter-none}

module _ (f g : Trees) (n p : ℕ) (shift : IsShift f g n p) where
  pub found-stays : (q : ℕ → Bool) (r : ℕ) → is_among r (order_of f n) ≡ false → ((i : ℕ) → is_among i (tree_order_of f n) ≡ true → q i ≡ false)
      → filter q (tree_order_of g r) ≡ filter q (tree_order_of f r)
  found-stays q r out fails =
      shift.kept q r (sym (count-order r (tree_of n f)) ∙ absent-count r (order_of f n) out) (filter-none q (tree_order_of f n) fails)

  pub named-stays : (id : List ℕ) (r : ℕ) → is_among r (order_of f n) ≡ false
      → ((i : ℕ) → is_among i (tree_order_of f n) ≡ true → has_id id (facts_at f i) ≡ false) → first_with_id g r id ≡ first_with_id f r id
  named-stays id r out fails = named-same f g r id shift.facts (found-stays (λ i. has_id id (facts_at f i)) r out fails)
