use Rattle.std.proofs.Common.{◌≡◌, drop}
use Rattle.std.specs.List.{list_all}
use Rattle.rule_tokens.specs.OperandForms.{is_class_part}
use Rattle.rule_tokens.proofs.operand.are_class_parts.Given as goal

abbrev pub invariant-loop-b : goal.invariant-loop-b
invariant-loop-b l = list_all is_class_part (drop l.b-index l.bytes) ≡ list_all is_class_part l.bytes
