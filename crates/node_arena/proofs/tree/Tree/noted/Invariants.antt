use Rattle.std.proofs.Common.{ℕ, List}
use Rattle.node_trees.specs.Nodes.{IsTidy}
use Rattle.tree_laws.proofs.OrderListing.{Listing, left_from}
use Rattle.node_arena.proofs.MarkLemmas.{AreMarked}
use Rattle.node_arena.proofs.tree.Tree.noted.Given as goal

abbrev pub invariant-loop-next : goal.invariant-loop-next
invariant-loop-next l = record {
  tidy : IsTidy l.self;
  marked : (out : List ℕ) × Listing l.self l.fn.n l.at out × AreMarked out l.fn.is l.fn.marks.items l.marks.items;
}

abbrev pub decreases-loop-next : goal.decreases-loop-next
decreases-loop-next l = left_from l.self l.fn.n l.at
