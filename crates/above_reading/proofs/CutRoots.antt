-- The root of each node's tree after a node was taken out of the children that it stood in: that node, for all in its tree's
-- order; for the others, what it was.
use Rattle.std.proofs.Common.{◌≡◌, ◌≢◌, ℕ, zero, suc, ◌≤◌, true, false, Some, ap, sym, ◌∙◌, arith, length}
use Rattle.node_trees.specs.Trees.{Trees, tree_of, without, cut}
use Rattle.node_trees.specs.Nodes.{IsNode, IsTidy}
use Rattle.node_trees.specs.Orders.{tree_order, tree_order_of}
use Rattle.node_trees.specs.Paths.{path, is_among, root_at}
use Rattle.node_trees.specs.Spots.{parent_at}
use Rattle.tree_laws.proofs.Above.{parent-above}
use Rattle.tree_laws.proofs.AllowedGraft.{tidy-cut-child}
use Rattle.tree_laws.proofs.AtNode.{node_stands}
use Rattle.tree_laws.proofs.Children.{among-root}
use Rattle.tree_laws.proofs.CutReads.{parent_at-cut, parent_at-cut-here, not-left, in-tree}
use Rattle.tree_laws.proofs.MovedSpots.{removed}
use Rattle.tree_laws.proofs.OrderSteps.{tree_of-inside}
use Rattle.tree_laws.proofs.Parents.{parent-other}
use Rattle.tree_laws.proofs.Pieces.{path-long}
use Rattle.tree_laws.proofs.Sums.{tidy-apart}
use Rattle.tree_laws.proofs.TreeMembers.{member-parent}
use Rattle.above_reading.proofs.Aside.{tree_of-place-in}
use Rattle.above_reading.proofs.Cases.{by_option}
use Rattle.above_reading.proofs.Roots.{root-top, root-up, order-top}

module _ (f : Trees) (n p : ℕ) (tidy : IsTidy f) (node : IsNode f n) (up : parent_at f n ≡ Some p) where
  -- the new trees are tidy, and have the nodes that there were
  pub cut-tidy : IsTidy (cut f n)
  cut-tidy = tidy-cut-child f n p tidy node up

  pub cut-node : (i : ℕ) → IsNode f i → IsNode (cut f n) i
  cut-node i at =
      let long = (removed f tidy p n (parent-above f n p tidy node up).is_node node (parent-other f tidy n p up) up).long in
      let low = at.low in
      let high = at.high in
      record { low = low; high = omega (arith, high, long) }

  -- the moved tree is as it was
  pub cut-tree : tree_of n (cut f n) ≡ tree_of n f
  cut-tree =
      tree_of-place-in n n (tree_of n f) (without n f) (not-left f n tidy node n (in-tree f n tidy node))
      ∙ sym (tree_of-inside n n f (tidy-apart f tidy) (node_stands f n tidy node) (in-tree f n tidy node))

  -- those in its order
  pub root-cut-in : (i : ℕ) → is_among i (tree_order_of f n) ≡ true → root_at (cut f n) i ≡ n
  root-cut-in i among = order-top (cut f n) cut-tidy n i (parent_at-cut-here f n tidy node) (ap (λ t. is_among i (tree_order t)) cut-tree ∙ among)

  -- and the others: above them nothing changes
  climb-out : (k i : ℕ) → length (path i f) ≤ k → IsNode f i → is_among i (tree_order_of f n) ≡ false → root_at (cut f n) i ≡ root_at f i
  climb-out zero i short at out = absurd (omega (arith, short, path-long i f (node_stands f i tidy at)))
  climb-out (suc k) i short at out =
      let ne : i ≢ n = λ e. absurd (let here = ap (λ v. is_among v (tree_order_of f n)) e ∙ among-root f n tidy node in cc) in
      let same = parent_at-cut f n tidy node i ne in
      by_option (parent_at f i)
      (λ free. root-top (cut f n) cut-tidy i (cut-node i at) (same ∙ free) ∙ sym (root-top f tidy i at free))
      (λ q on.
      let a = parent-above f i q tidy at on in
      let near = a.nearer in
      root-up (cut f n) cut-tidy i (cut-node i at) q (same ∙ on)
      ∙ climb-out k q (omega (arith, near, short)) a.is_node (sym (member-parent f n tidy node i ne q (sym on)) ∙ out)
      ∙ sym (root-up f tidy i at q on))

  pub root-cut-out : (i : ℕ) → IsNode f i → is_among i (tree_order_of f n) ≡ false → root_at (cut f n) i ≡ root_at f i
  root-cut-out i at out = climb-out (length (path i f)) i (omega arith) at out
