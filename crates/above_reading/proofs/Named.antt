-- The first element with an ID, where one element alone has it.
use Rattle.std.proofs.Common.{◌≡◌, ◌≢◌, ℕ, Bool, true, false, List, [], ◌∷◌, Some, None, refl, subst, arith}
use Rattle.std.proofs.lemmas.Bool.{false_from_ne_true}
use Rattle.std.proofs.lemmas.Bool.Decides.{nat_tests}
use Rattle.node_trees.specs.Trees.{Trees}
use Rattle.node_trees.specs.Ids.{first_with_id, has_id}
use Rattle.node_trees.specs.Nodes.{IsTidy}
use Rattle.node_trees.specs.Orders.{tree_order_of}
use Rattle.node_trees.specs.Paths.{is_among, root_at}
use Rattle.node_trees.specs.Spots.{facts_at, parent_at}
use Rattle.above_reading.proofs.Roots.{order-top, root-among}
use Rattle.node_arena.specs.Holders.{is_holder}
use Rattle.node_arena.proofs.LookUp.{look-end, look-found, look-other, look-start}
use Rattle.above_reading.specs.Holders.{IsOnlyHolder}

module _ (f : Trees) (root n : ℕ) (id : List ℕ) (tidy : IsTidy f) (only : IsOnlyHolder f id n) where
  start : (m : ℕ) → has_id id (facts_at f m) ≡ true → is_among m (n ∷ []) ≡ true
  start m has = let it : m ≡ n = only.other m has in grind (arith, nat_tests, it)

  pub named-here : parent_at f root ≡ None → root_at f n ≡ root → Some n ≡ first_with_id f root id
  named-here top is =
      let among : is_among n (tree_order_of f root) ≡ true = subst (λ r. is_among n (tree_order_of f r) ≡ true) is (root-among f tidy n only.node) in
      let has = only.has in
      let holder : is_holder f root id n ≡ true = grind (arith, has, among) in
      look-end f root id (Some n) [] refl
      (look-found f root id None (n ∷ []) [] n refl (look-start f root id (n ∷ []) (n ∷ []) refl start) holder only.node refl)

  pub named-nowhere : parent_at f root ≡ None → root_at f n ≢ root → None ≡ first_with_id f root id
  named-nowhere top other =
      let apart : is_among n (tree_order_of f root) ≡ false =
      false_from_ne_true (is_among n (tree_order_of f root)) (λ among. other (order-top f tidy root n top among)) in
      let holder : is_holder f root id n ≡ false = grind (arith, apart) in
      look-end f root id None [] refl (look-other f root id None (n ∷ []) [] n refl (look-start f root id (n ∷ []) (n ∷ []) refl start) holder)
