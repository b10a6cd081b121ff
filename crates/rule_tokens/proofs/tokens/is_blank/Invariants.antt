use Rattle.std.proofs.Common.{◌≡◌, drop}
use Rattle.rule_tokens.specs.Tokens.{is_blank}
use Rattle.rule_tokens.proofs.tokens.is_blank.Given as goal

abbrev pub invariant-loop-c : goal.invariant-loop-c
invariant-loop-c l = is_blank (drop l.c-index l.line) ≡ is_blank l.line
