-- Operations on controls.
use Rattle.std.specs.Prelude.{Bool, true, false}
use Rattle.rule_lines.specs.declared.op.Op.{Op}
use Rattle.rule_lines.specs.declared.op.Op.TheVariants as ops

-- a value, a checkedness, a choice or a custom message that is set
abbrev pub is_on_controls : Op → Bool
is_on_controls (ops.Value operand value) = true
is_on_controls (ops.Check operand on) = true
is_on_controls (ops.Choose operand on) = true
is_on_controls (ops.Custom operand message) = true
is_on_controls op = false
