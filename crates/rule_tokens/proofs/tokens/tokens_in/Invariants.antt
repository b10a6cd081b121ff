use Rattle.std.proofs.Common.{◌≡◌, drop}
use Rattle.rule_tokens.specs.Gives.{with_front}
use Rattle.rule_tokens.specs.Tokens.{tokens_in}
use Rattle.rule_tokens.proofs.tokens.tokens_in.Given as goal

abbrev pub invariant-loop-raw : goal.invariant-loop-raw
invariant-loop-raw l = with_front l.tokens (tokens_in (drop l.raw-index l.raws)) ≡ tokens_in l.raws
