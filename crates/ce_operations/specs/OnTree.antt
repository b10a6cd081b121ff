-- Operations on the tree.
use Rattle.std.specs.Prelude.{Bool, true, false}
use Rattle.rule_lines.specs.declared.op.Op.{Op}
use Rattle.rule_lines.specs.declared.op.Op.TheVariants as ops

-- where nodes stand is changed, or an attribute
abbrev pub is_on_tree : Op → Bool
is_on_tree (ops.Shadow variable host) = true
is_on_tree (ops.Append parent node) = true
is_on_tree (ops.Before parent node reference) = true
is_on_tree (ops.Remove parent node) = true
is_on_tree (ops.Detach node) = true
is_on_tree (ops.SetAttr node name value) = true
is_on_tree (ops.DelAttr node name) = true
is_on_tree (ops.Adopt document node) = true
is_on_tree op = false
