-- The forms that make nodes and move them.
use Rattle.std.specs.Prelude.{List, Result, Ok}
use Rattle.rule_tokens.specs.declared.refused.Bad.{Bad}
use Rattle.rule_tokens.specs.declared.token.Token.{Token}
use Rattle.rule_tokens.specs.Gives.{◌>>=◌}
use Rattle.rule_tokens.specs.OperandForms.{variable, node, class_name, text}
use Rattle.rule_lines.specs.declared.op.Op.TheVariants as ops
use Rattle.rule_lines.specs.declared.keyword.Keyword.TheVariants as keywords
use Rattle.rule_reader.specs.declared.form.Leaf.{Leaf}
use Rattle.rule_reader.specs.declared.form.Leaf.TheVariants as leaves
use Rattle.rule_reader.specs.Shapes.{only, only_behind, two}
use Rattle.rule_reader.specs.Takes.{take_one, optional, marked, ended}

abbrev pub create_of : List Token → Result Leaf Bad
create_of ts = do
  var ← take_one variable ts
  local ← take_one text var.1
  is_value ← optional keywords.Is text local.1
  document ← only_behind keywords.In node is_value.1
  Ok (leaves.Both (ops.Create var.0 local.0 is_value.0 document))

abbrev pub new_of : List Token → Result Leaf Bad
new_of ts = do
  var ← take_one variable ts
  class ← only class_name var.1
  Ok (leaves.Both (ops.New var.0 class))

abbrev pub make_text_of : List Token → Result Leaf Bad
make_text_of ts = do
  var ← take_one variable ts
  chars ← take_one text var.1
  document ← only_behind keywords.In node chars.1
  Ok (leaves.Both (ops.MakeText var.0 chars.0 document))

abbrev pub shadow_of : List Token → Result Leaf Bad
shadow_of ts = do
  both ← two variable node ts
  Ok (leaves.Both (ops.Shadow both.0 both.1))

abbrev pub append_of : List Token → Result Leaf Bad
append_of ts = do
  nodes ← two node node ts
  Ok (leaves.Both (ops.Append nodes.0 nodes.1))

abbrev pub before_of : List Token → Result Leaf Bad
before_of ts = do
  parent ← take_one node ts
  nodes ← two node node parent.1
  Ok (leaves.Both (ops.Before parent.0 nodes.0 nodes.1))

abbrev pub remove_of : List Token → Result Leaf Bad
remove_of ts = do
  nodes ← two node node ts
  Ok (leaves.Both (ops.Remove nodes.0 nodes.1))

abbrev pub detach_of : List Token → Result Leaf Bad
detach_of ts = do
  target ← only node ts
  Ok (leaves.Both (ops.Detach target))

abbrev pub clone_of : List Token → Result Leaf Bad
clone_of ts = do
  var ← take_one variable ts
  target ← take_one node var.1
  deep ← Ok (marked keywords.Deep target.1)
  end ← ended deep.1
  Ok (leaves.Both (ops.Clone var.0 target.0 deep.0))

abbrev pub adopt_of : List Token → Result Leaf Bad
adopt_of ts = do
  nodes ← two node node ts
  Ok (leaves.Both (ops.Adopt nodes.0 nodes.1))

abbrev pub let_variable_of : List Token → Result Leaf Bad
let_variable_of ts = do
  both ← two variable node ts
  Ok (leaves.Both (ops.Let both.0 both.1))

abbrev pub doc_of : List Token → Result Leaf Bad
doc_of ts = do
  var ← take_one variable ts
  end ← ended var.1
  Ok (leaves.Doc var.0)
