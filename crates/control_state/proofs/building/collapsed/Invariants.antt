use Rattle.std.proofs.Common.{◌≡◌, ◌++◌, false, string_bytes}
use Rattle.std.specs.Str.Iter.{chars_rest}
use Rattle.control_state.specs.Reading.{collapsed_from}
use Rattle.control_state.proofs.building.collapsed.Given as goal

-- what was put, and then what the rest gives, is what the text gives
abbrev pub invariant-loop-c : goal.invariant-loop-c
invariant-loop-c l = string_bytes l.made ++ collapsed_from l.begun l.apart (chars_rest l.c-iterator) ≡ collapsed_from false false l.text
