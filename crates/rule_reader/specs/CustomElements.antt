-- The forms for custom elements.
use Rattle.std.specs.Prelude.{List, Result, Ok}
use Rattle.rule_tokens.specs.declared.refused.Bad.{Bad}
use Rattle.rule_tokens.specs.declared.token.Token.{Token}
use Rattle.rule_tokens.specs.Gives.{◌>>=◌}
use Rattle.rule_tokens.specs.OperandForms.{node, class_name, text}
use Rattle.rule_lines.specs.declared.op.Op.TheVariants as ops
use Rattle.rule_lines.specs.declared.keyword.Keyword.TheVariants as keywords
use Rattle.rule_reader.specs.declared.form.Leaf.{Leaf}
use Rattle.rule_reader.specs.declared.form.Leaf.TheVariants as leaves
use Rattle.rule_reader.specs.Shapes.{only, only_behind}
use Rattle.rule_reader.specs.Takes.{take_one}

abbrev pub define_of : List Token → Result Leaf Bad
define_of ts = do
  name ← take_one text ts
  class ← take_one class_name name.1
  base ← only_behind keywords.Extends text class.1
  Ok (leaves.Both (ops.Define name.0 class.0 base))

abbrev pub upgrade_of : List Token → Result Leaf Bad
upgrade_of ts = do
  target ← only node ts
  Ok (leaves.Both (ops.Upgrade target))
