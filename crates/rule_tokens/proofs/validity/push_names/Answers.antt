use Rattle.std.proofs.Common.{◌<◌, append_assoc, length, arith}
use Rattle.rule_tokens.specs.Flags.{flag_names}
use Rattle.rule_tokens.proofs.FlagsText.{text_step}
use Rattle.rule_tokens.proofs.validity.push_names.Goals as goal

pub loop-i-preserved : goal.loop-i-preserved
loop-i-preserved c =
    let in_names : c.loop-i.i < length flag_names = omega arith in
    let in_flags : c.loop-i.i < length c.args.raised.now.0 = omega arith in
    let step = text_step c.args.between.now c.args.none.now c.loop-i.named c.loop-i.i flag_names c.args.raised.now.0 in_names in_flags in
    rw (c.in_ok-named.ensures.text, c.in_ok-named.ensures.named, c.flag_name.ensures, append_assoc, ← step) c.loop-i.invariant
