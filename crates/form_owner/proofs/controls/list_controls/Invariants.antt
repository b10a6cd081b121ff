use Rattle.std.proofs.Common.{take}
use Rattle.form_owner.specs.Writing.{AreListed}
use Rattle.form_owner.proofs.controls.list_controls.Given as goal

abbrev pub invariant-loop-i : goal.invariant-loop-i
invariant-loop-i l = AreListed l.tree (take l.i l.forms) l.initial.rows l.rows
