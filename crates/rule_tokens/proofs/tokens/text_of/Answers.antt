use Rattle.std.proofs.Common.{◌++◌, append_assoc, encode_utf8_all, string_bytes}
use Rattle.rule_tokens.proofs.ReadOn.{read_on}
use Rattle.rule_tokens.proofs.tokens.text_of.Goals as goal

pub loop-c-preserved : goal.loop-c-preserved
loop-c-preserved c = read_on
    (λ cs. string_bytes c.loop-c.s ++ encode_utf8_all cs) (λ cs. string_bytes c.push.new.self ++ encode_utf8_all cs)
    c.args.chars.now c.loop-c.c-index c.c-item.result _ c.loop-c-test.true c.c-item.is c.loop-c.invariant
    (λ rest. rw (c.in_ok-push.ensures.bytes, append_assoc))
