use Rattle.std.proofs.Common.{[], ◌∷◌}
use Rattle.rule_tokens.specs.Gives.{with_front}
use Rattle.rule_tokens.specs.Tokens.{tokens_in}
use Rattle.rule_tokens.proofs.CutLaws.{with_more}
use Rattle.rule_tokens.proofs.ReadOn.{read_on}
use Rattle.rule_tokens.proofs.tokens.tokens_in.Goals as goal

pub loop-raw-preserved : goal.loop-raw-preserved
loop-raw-preserved c = read_on
    (λ raws. with_front c.loop-raw.tokens (tokens_in raws)) (λ raws. with_front c.push.new.self (tokens_in raws))
    c.args.raws.now c.loop-raw.raw-index c.raw-item.result _ c.loop-raw-test.true c.raw-item.is c.loop-raw.invariant
    (λ rest. rw (c.in_ok-token_of.ensures, c.in_ok-push.ensures) (with_more c.loop-raw.tokens (c.in_ok-token_of.field-0 ∷ []) (tokens_in rest)))
