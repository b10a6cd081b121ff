use Rattle.std.proofs.Common.{◌≡◌, ◌++◌, string_bytes}
use Rattle.std.specs.Str.Iter.{chars_rest}
use Rattle.form_controls.specs.Texts.{normalized, normalized_from}
use Rattle.control_state.proofs.building.normalized.Given as goal

-- what was put, and then what the rest gives, is what the text gives
abbrev pub invariant-loop-c : goal.invariant-loop-c
invariant-loop-c l = string_bytes l.made ++ normalized_from l.behind (chars_rest l.c-iterator) ≡ normalized l.text
