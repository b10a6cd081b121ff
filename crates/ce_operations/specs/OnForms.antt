-- Operations on forms.
use Rattle.std.specs.Prelude.{Bool, true, false}
use Rattle.rule_lines.specs.declared.op.Op.{Op}
use Rattle.rule_lines.specs.declared.op.Op.TheVariants as ops

-- a form that is reset, or submitted
abbrev pub is_on_forms : Op → Bool
is_on_forms (ops.Reset form) = true
is_on_forms (ops.Submit form) = true
is_on_forms (ops.Request form submitter) = true
is_on_forms op = false
