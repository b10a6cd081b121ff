use Rattle.std.proofs.Common.{◌≡◌, drop}
use Rattle.rule_tokens.specs.Gives.{with_front}
use Rattle.rule_tokens.specs.OperandForms.{text}
use Rattle.rule_reader.specs.Takes.{up_to}
use Rattle.rule_reader.proofs.takes.texts.Given as goal

abbrev pub invariant-loop-t : goal.invariant-loop-t
invariant-loop-t l = with_front l.all (up_to l.room text (drop l.t-index l.tokens)) ≡ up_to 16 text l.tokens
