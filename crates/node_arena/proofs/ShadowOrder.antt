-- What follows in a shadow-including tree order is in it, and a node.
use Rattle.std.proofs.Common.{◌≡◌, ℕ, true, Option, Some, None, sym}
use Rattle.std.specs.Option.{IfSome}
use Rattle.node_trees.specs.Trees.{Trees, tree_of}
use Rattle.node_trees.specs.Nodes.{IsNode, IsNodeOrNone, IsTidy}
use Rattle.node_trees.specs.Orders.{order_of}
use Rattle.node_trees.specs.Paths.{is_among}
use Rattle.node_trees.specs.Spots.{after}
use Rattle.tree_laws.proofs.Children.{after-among}
use Rattle.tree_laws.proofs.Past.{in_order}
use Rattle.tree_laws.proofs.PastIn.{inside-node}

module _ (f : Trees) (root : ℕ) where
  pub next-inside : (n : ℕ) (o : Option ℕ) → o ≡ after n (order_of f root) → IfSome o (λ d. is_among d (order_of f root) ≡ true)
  next-inside n None e = tt
  next-inside n (Some d) e = after-among n d (order_of f root) (sym e)

  pub next-node : IsTidy f → IsNode f root → (n : ℕ) (o : Option ℕ) → o ≡ after n (order_of f root) → IsNodeOrNone f o
  next-node tidy node n None e = tt
  next-node tidy node n (Some d) e = inside-node f root tidy node d (in_order d (tree_of root f) (after-among n d (order_of f root) (sym e)))
