-- The forms for attributes.
use Rattle.std.specs.Prelude.{List, Result, Ok}
use Rattle.rule_tokens.specs.declared.refused.Bad.{Bad}
use Rattle.rule_tokens.specs.declared.token.Token.{Token}
use Rattle.rule_tokens.specs.Gives.{◌>>=◌}
use Rattle.rule_tokens.specs.OperandForms.{node, text, value}
use Rattle.rule_lines.specs.declared.op.Op.TheVariants as ops
use Rattle.rule_reader.specs.declared.form.Leaf.{Leaf}
use Rattle.rule_reader.specs.declared.form.Leaf.TheVariants as leaves
use Rattle.rule_reader.specs.Shapes.{only}
use Rattle.rule_reader.specs.Takes.{take_one}

abbrev pub set_attr_of : List Token → Result Leaf Bad
set_attr_of ts = do
  target ← take_one node ts
  name ← take_one text target.1
  val ← only value name.1
  Ok (leaves.Both (ops.SetAttr target.0 name.0 val))

abbrev pub del_attr_of : List Token → Result Leaf Bad
del_attr_of ts = do
  target ← take_one node ts
  name ← only text target.1
  Ok (leaves.Both (ops.DelAttr target.0 name))
