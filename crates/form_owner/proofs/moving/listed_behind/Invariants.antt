use Rattle.std.proofs.Common.{length}
use Rattle.std.specs.Prelude.{IfSome}
use Rattle.node_trees.specs.Orders.{tree_order_of}
use Rattle.form_owner.specs.Groups.{all_after}
use Rattle.form_owner.specs.Moves.{HasNoneBehind, is_listed_in}
use Rattle.form_owner.proofs.Groups.{Looking}
use Rattle.form_owner.proofs.moving.listed_behind.Given as goal

abbrev pub invariant-loop-next : goal.invariant-loop-next
invariant-loop-next l = record {
  looking : Looking (is_listed_in l.rows l.form) (tree_order_of l.tree l.root) l.fn.n l.at;
  past : IfSome l.past (HasNoneBehind (is_listed_in l.rows l.form) (tree_order_of l.tree l.root));
}

abbrev pub decreases-loop-next : goal.decreases-loop-next
decreases-loop-next l = length (all_after l.at (tree_order_of l.tree l.root))
