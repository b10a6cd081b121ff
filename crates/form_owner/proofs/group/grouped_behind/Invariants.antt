use Rattle.std.proofs.Common.{length}
use Rattle.node_trees.specs.Orders.{tree_order_of}
use Rattle.form_owner.specs.Groups.{all_after, is_grouped_in}
use Rattle.form_owner.proofs.Groups.{Looking}
use Rattle.form_owner.proofs.group.grouped_behind.Given as goal

abbrev pub invariant-loop-next : goal.invariant-loop-next
invariant-loop-next l = Looking (is_grouped_in l.rows l.tree l.radio) (tree_order_of l.tree l.root) l.fn.behind l.at

abbrev pub decreases-loop-next : goal.decreases-loop-next
decreases-loop-next l = length (all_after l.at (tree_order_of l.tree l.root))
