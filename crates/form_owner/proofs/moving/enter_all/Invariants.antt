use Rattle.std.proofs.Common.{◌≤◌, length, take}
use Rattle.form_owner.specs.Moves.{AreEntered}
use Rattle.form_owner.proofs.moving.enter_all.Given as goal

abbrev pub invariant-loop-left : goal.invariant-loop-left
invariant-loop-left l = record { within : l.left ≤ length l.changes; entered : AreEntered l.tree (take l.left l.changes) l.initial.rows l.rows }

abbrev pub decreases-loop-left : goal.decreases-loop-left
decreases-loop-left l = l.left
