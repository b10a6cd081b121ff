-- Operations on internals.
use Rattle.std.specs.Prelude.{Bool, true, false}
use Rattle.rule_lines.specs.declared.op.Op.{Op}
use Rattle.rule_lines.specs.declared.op.Op.TheVariants as ops

-- what is attached, or written through it
abbrev pub is_on_internals : Op → Bool
is_on_internals (ops.Internals operand) = true
is_on_internals (ops.FormValue operand value saved) = true
is_on_internals (ops.FormList operand entries) = true
is_on_internals (ops.FormNull operand) = true
is_on_internals (ops.Validity operand flags message) = true
is_on_internals (ops.StateAdd operand word) = true
is_on_internals (ops.StateDelete operand word) = true
is_on_internals (ops.StateClear operand) = true
is_on_internals op = false
