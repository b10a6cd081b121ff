use Rattle.std.proofs.Common.{length}
use Rattle.tree_laws.proofs.Siblings.{children_from}
use Rattle.disabled_reading.proofs.Legends.{Seeking}
use Rattle.disabled_reading.proofs.disabled.first_legend.Given as goal

abbrev pub invariant-loop-next : goal.invariant-loop-next
invariant-loop-next l = Seeking l.tree l.fn.fieldset l.next

abbrev pub decreases-loop-next : goal.decreases-loop-next
decreases-loop-next l = length (children_from l.tree l.fn.fieldset l.next)
