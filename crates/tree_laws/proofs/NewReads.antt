-- What stands at a node that was made as the last root.
use Rattle.std.proofs.Common.{◌≡◌, ℕ, Some, None}
use Rattle.node_trees.specs.Facts.{Facts}
use Rattle.node_trees.specs.Trees.{Trees, none, with_node}
use Rattle.node_trees.specs.Nodes.{times}
use Rattle.node_trees.specs.Spots.{spot_of, spot}
use Rattle.tree_laws.proofs.NewNode.{spot-new}

-- ---- the new node

module _ (n : ℕ) (x : Facts) (f : Trees) where
  pub spot-new-here : times n f ≡ 0 → spot (with_node n x f) n ≡ Some (spot_of x None None none none)
  spot-new-here z = spot-new n x None None f z
