use Rattle.std.proofs.Common.{◌≡◌, ◌++◌, string_bytes}
use Rattle.std.specs.Str.Iter.{chars_rest}
use Rattle.form_controls.specs.Texts.{without_newlines}
use Rattle.control_state.proofs.building.without_newlines.Given as goal

-- what was put, and then what the rest gives, is what the text gives
abbrev pub invariant-loop-c : goal.invariant-loop-c
invariant-loop-c l = string_bytes l.made ++ without_newlines (chars_rest l.c-iterator) ≡ without_newlines l.text
