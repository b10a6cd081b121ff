use Rattle.std.proofs.Common.{◌+◌, ◌-◌, length}
use Rattle.form_controls.specs.Controls.{untouched}
use Rattle.form_controls.specs.Filling.{IsFilled}
use Rattle.control_state.proofs.setting.fill.Given as goal

abbrev pub invariant-loop-alloc : goal.invariant-loop-alloc
invariant-loop-alloc l = IsFilled untouched l.place l.initial.rows.items l.rows.items

abbrev pub decreases-loop-alloc : goal.decreases-loop-alloc
decreases-loop-alloc l = l.place + 1 - length l.rows.items
