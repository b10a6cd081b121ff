use Rattle.std.proofs.Common.{◌≡◌, ◌-◌, ◌^◌, min, take}
use Rattle.form_controls.specs.Texts.{units_of, without_newlines}
use Rattle.control_state.proofs.text_units.units_without_newlines.Given as goal

abbrev pub invariant-loop-b : goal.invariant-loop-b
invariant-loop-b l = l.count ≡ min (units_of (without_newlines (take l.b-index l.b-items))) (2 ^ 64 - 1)
