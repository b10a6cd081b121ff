use Rattle.std.proofs.Common.{None, ◌+◌, ◌-◌, length}
use Rattle.form_controls.specs.Filling.{IsFilled}
use Rattle.element_internals.proofs.attaching.fill.Given as goal

abbrev pub invariant-loop-rows : goal.invariant-loop-rows
invariant-loop-rows l = IsFilled None l.place l.initial.rows.items l.rows.items

abbrev pub decreases-loop-rows : goal.decreases-loop-rows
decreases-loop-rows l = l.place + 1 - length l.rows.items
