use Rattle.std.proofs.Common.{◌≡◌, drop}
use Rattle.std.specs.List.{list_all}
use Rattle.form_controls.specs.Texts.{is_newline}
use Rattle.control_state.proofs.bytes.are_newlines.Given as goal

abbrev pub invariant-loop-b : goal.invariant-loop-b
invariant-loop-b l = list_all is_newline (drop l.b-index l.bytes) ≡ list_all is_newline l.bytes
