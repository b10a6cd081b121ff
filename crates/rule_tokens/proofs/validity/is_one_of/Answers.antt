use Rattle.std.specs.Str.{bytes_eq}
use Rattle.rule_tokens.proofs.ReadOn.{passed_over}
use Rattle.rule_tokens.proofs.validity.is_one_of.Goals as goal

pub loop-name-preserved : goal.loop-name-preserved
loop-name-preserved c = passed_over (λ name. bytes_eq c.args.text.now name.now) c.args.names.now c.loop-name.name-index _ _
    c.loop-name-test.true c.if-eq.ensures c.loop-name.invariant
