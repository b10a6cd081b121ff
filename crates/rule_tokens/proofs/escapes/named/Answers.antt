use Rattle.std.proofs.Common.{◌<◌, arith}
use Rattle.rule_tokens.proofs.Hex.{below_six}
use Rattle.rule_tokens.proofs.escapes.named.Goals as goal

pub overflow_mul-code : goal.overflow_mul-code
overflow_mul-code c =
    let i : c.loop-d.d-index < 6 = omega arith in
    omega (arith, below_six c.loop-d.d-index c.loop-d.code i c.loop-d.invariant.fits)

pub overflow_add-code : goal.overflow_add-code
overflow_add-code c =
    let i : c.loop-d.d-index < 6 = omega arith in
    omega (arith, below_six c.loop-d.d-index c.loop-d.code i c.loop-d.invariant.fits, c.in_ok-value.ensures.value)
