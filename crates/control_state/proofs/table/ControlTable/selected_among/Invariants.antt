use Rattle.std.proofs.Common.{◌≡◌, take}
use Rattle.std.specs.Prelude.{filter}
use Rattle.form_controls.specs.Options.{is_selected}
use Rattle.control_state.proofs.table.ControlTable.selected_among.Given as goal

abbrev pub invariant-loop-i : goal.invariant-loop-i
invariant-loop-i l = l.kept ≡ filter (is_selected l.self l.tree) (take l.i l.options)
