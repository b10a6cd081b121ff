-- Elements with an ID in a tree.
use Rattle.std.specs.Prelude.{ℕ, Bool, ◌&&◌, List}
use Rattle.node_trees.specs.Trees.{Trees}
use Rattle.node_trees.specs.Spots.{facts_at}
use Rattle.node_trees.specs.Orders.{tree_order_of}
use Rattle.node_trees.specs.Paths.{is_among}
use Rattle.node_trees.specs.Ids.{has_id}

-- the node n has this ID, and is in the tree of root
abbrev pub is_holder : Trees → ℕ → List ℕ → ℕ → Bool
is_holder f root id n = has_id id (facts_at f n) && is_among n (tree_order_of f root)
