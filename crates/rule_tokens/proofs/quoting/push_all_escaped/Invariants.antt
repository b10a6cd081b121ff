use Rattle.std.proofs.Common.{◌≡◌, ◌++◌, drop, string_bytes}
use Rattle.rule_tokens.specs.Quoted.{escaped}
use Rattle.rule_tokens.proofs.quoting.push_all_escaped.Given as goal

abbrev pub invariant-loop-c : goal.invariant-loop-c
invariant-loop-c l = string_bytes l.out ++ escaped (drop l.c-index l.chars) ≡ string_bytes l.initial.out ++ escaped l.chars
