use Rattle.std.proofs.Common.{◌≡◌, drop}
use Rattle.rule_tokens.specs.Gives.{with_front}
use Rattle.rule_tokens.specs.OperandForms.{value}
use Rattle.rule_reader.specs.Takes.{up_to}
use Rattle.rule_reader.proofs.takes.values.Given as goal

abbrev pub invariant-loop-t : goal.invariant-loop-t
invariant-loop-t l = with_front l.all (up_to l.room value (drop l.t-index l.tokens)) ≡ up_to 8 value l.tokens
