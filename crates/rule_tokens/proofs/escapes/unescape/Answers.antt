use Rattle.rule_tokens.specs.Escapes.{unescape}
use Rattle.rule_tokens.specs.Gives.{with_front}
use Rattle.rule_tokens.proofs.ReadOn.{read_on}
use Rattle.rule_tokens.proofs.escapes.unescape.Goals as goal

pub loop-c-preserved : goal.loop-c-preserved
loop-c-preserved c = read_on
    (λ cs. with_front c.loop-c.text (unescape cs c.loop-c.escape)) (λ cs. with_front c.step.new.text (unescape cs c.in_ok-escape.escape))
    c.args.chars.now c.loop-c.c-index c.c-item.result _ c.loop-c-test.true c.c-item.is c.loop-c.invariant c.in_ok-escape.ensures
