use Rattle.std.proofs.Common.{◌≡◌, ◌++◌, false, drop, string_bytes}
use Rattle.rule_tokens.specs.Flags.{flag_names}
use Rattle.rule_tokens.specs.FlagsText.{raised_names}
use Rattle.rule_tokens.proofs.FlagsText.{text_from}
use Rattle.rule_tokens.proofs.validity.push_names.Given as goal

abbrev pub invariant-loop-i : goal.invariant-loop-i
invariant-loop-i l = string_bytes l.out ++ text_from l.between l.none l.named (raised_names (drop l.i flag_names) (drop l.i l.raised.0))
    ≡ string_bytes l.initial.out ++ text_from l.between l.none false (raised_names flag_names l.raised.0)
