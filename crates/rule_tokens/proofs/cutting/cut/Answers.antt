use Rattle.rule_tokens.specs.Cut.{cut}
use Rattle.rule_tokens.specs.Gives.{with_front}
use Rattle.rule_tokens.proofs.ReadOn.{read_on}
use Rattle.rule_tokens.proofs.cutting.cut.Goals as goal

pub loop-c-preserved : goal.loop-c-preserved
loop-c-preserved c = read_on
    (λ cs. with_front c.loop-c.done.items (cut cs c.loop-c.within)) (λ cs. with_front c.step.new.done.items (cut cs c.in_ok-within.within))
    c.args.line.now c.loop-c.c-index c.c-item.result _ c.loop-c-test.true c.c-item.is c.loop-c.invariant c.in_ok-within.ensures
