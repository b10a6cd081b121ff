use Rattle.std.proofs.Common.{length}
use Rattle.tree_laws.proofs.Siblings.{Listing, children_from}
use Rattle.node_arena.proofs.tree.Tree.children.Given as goal

abbrev pub invariant-loop-at : goal.invariant-loop-at
invariant-loop-at l = Listing l.self l.fn.n l.at l.list

abbrev pub decreases-loop-at : goal.decreases-loop-at
decreases-loop-at l = length (children_from l.self l.fn.n l.at)
