-- The first element with an ID is the first of all that have it, so it stays where those that have it stay in their order.
use Rattle.std.proofs.Common.{◌≡◌, ℕ, List, sym, ap, ◌∙◌}
use Rattle.std.specs.Prelude.{filter}
use Rattle.std.proofs.lemmas.List.Elements.{filter_agree}
use Rattle.node_trees.specs.Trees.{Trees}
use Rattle.node_trees.specs.Orders.{tree_order_of}
use Rattle.node_trees.specs.Spots.{facts_at, first_of}
use Rattle.node_trees.specs.Ids.{has_id, first_with_id}
use Rattle.tree_laws.proofs.Members.{first-filtered}

-- in trees where the facts of each node stay
module _ (f g : Trees) (r : ℕ) (id : List ℕ) (facts : (m : ℕ) → facts_at g m ≡ facts_at f m) where
  pub named-same : filter (λ m. has_id id (facts_at f m)) (tree_order_of g r) ≡ filter (λ m. has_id id (facts_at f m)) (tree_order_of f r)
      → first_with_id g r id ≡ first_with_id f r id
  named-same e =
      first-filtered (λ m. has_id id (facts_at g m)) (tree_order_of g r)
      ∙ ap first_of (filter_agree (λ m. has_id id (facts_at g m)) (λ m. has_id id (facts_at f m)) (λ m. ap (has_id id) (facts m)) (tree_order_of g r) ∙ e)
      ∙ sym (first-filtered (λ m. has_id id (facts_at f m)) (tree_order_of f r))
