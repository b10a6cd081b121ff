use Rattle.std.proofs.Common.{◌≡◌, drop}
use Rattle.rule_tokens.specs.Tokens.{is_blank}
use Rattle.script_runner.proofs.blank.is_blank.Given as goal

abbrev pub invariant-loop-b : goal.invariant-loop-b
invariant-loop-b l = is_blank (drop l.b-index l.bytes) ≡ is_blank l.bytes
