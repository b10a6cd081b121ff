use Rattle.std.specs.Str.{bytes_eq}
use Rattle.rule_tokens.proofs.ReadOn.{passed_over}
use Rattle.rule_tokens.proofs.validity.has.Goals as goal

pub loop-name-preserved : goal.loop-name-preserved
loop-name-preserved c = passed_over (λ name. bytes_eq c.args.flag.now name) c.args.names.now c.loop-name.name-index c.name-item.result _
    c.loop-name-test.true (rw (← c.name-item.is, ← c.as_str.ensures) c.if-eq.ensures) c.loop-name.invariant
