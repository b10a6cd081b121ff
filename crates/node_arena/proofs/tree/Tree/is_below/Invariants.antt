use Rattle.std.proofs.Common.{◌≡◌, length}
use Rattle.node_trees.specs.Nodes.{IsNode, IsTidy}
use Rattle.node_trees.specs.Orders.{tree_order_of}
use Rattle.node_trees.specs.Paths.{path, is_among}
use Rattle.node_arena.proofs.tree.Tree.is_below.Given as goal

abbrev pub invariant-loop-root : goal.invariant-loop-root
invariant-loop-root l = record {
  tidy : IsTidy l.self;
  node : IsNode l.self l.at;
  same : is_among l.fn.n (tree_order_of l.self l.fn.root)
      ≡ is_among l.at (tree_order_of l.self l.fn.root);
}

abbrev pub decreases-loop-root : goal.decreases-loop-root
decreases-loop-root l = length (path l.at l.self)
