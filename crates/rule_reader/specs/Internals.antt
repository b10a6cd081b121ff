-- The forms for element internals.
use Rattle.std.specs.Prelude.{List, Result, Ok, Err, if◌then◌else◌}
use Rattle.rule_tokens.specs.declared.refused.Bad.{Bad}
use Rattle.rule_tokens.specs.declared.refused.Bad.TheVariants.{Word}
use Rattle.rule_tokens.specs.declared.token.Token.{Token}
use Rattle.rule_tokens.specs.declared.operand.Operand.{Operand}
use Rattle.rule_tokens.specs.Flags.{flags}
use Rattle.rule_tokens.specs.Gives.{◌>>=◌}
use Rattle.rule_tokens.specs.OperandForms.{is_word, node, text, value}
use Rattle.rule_lines.specs.declared.op.Op.TheVariants as ops
use Rattle.rule_lines.specs.declared.keyword.Keyword.TheVariants as keywords
use Rattle.rule_lines.specs.declared.word.Word.TheVariants as words
use Rattle.rule_lines.specs.FixedWords.{spelling}
use Rattle.rule_reader.specs.declared.form.Leaf.{Leaf}
use Rattle.rule_reader.specs.declared.form.Leaf.TheVariants as leaves
use Rattle.rule_reader.specs.Shapes.{only, only_behind, two}
use Rattle.rule_reader.specs.Takes.{next, take_one, entries_up_to, ended}

abbrev pub internals_of : List Token → Result Leaf Bad
internals_of ts = do
  target ← only node ts
  Ok (leaves.Both (ops.Internals target))

abbrev pub form_value_of : List Token → Result Leaf Bad
form_value_of ts = do
  target ← take_one node ts
  val ← take_one value target.1
  saved ← only_behind keywords.State value val.1
  Ok (leaves.Both (ops.FormValue target.0 val.0 saved))

abbrev pub form_null_of : List Token → Result Leaf Bad
form_null_of ts = do
  target ← only node ts
  Ok (leaves.Both (ops.FormNull target))

abbrev pub validity_of : List Token → Result Leaf Bad
validity_of ts = do
  target ← take_one node ts
  raised ← take_one flags target.1
  message ← only value raised.1
  Ok (leaves.Both (ops.Validity target.0 (record { 0 = raised.0 }) message))

abbrev pub custom_of : List Token → Result Leaf Bad
custom_of ts = do
  both ← two node value ts
  Ok (leaves.Both (ops.Custom both.0 both.1))

abbrev pub state_add_of : Operand → List Token → Result Leaf Bad
state_add_of target ts = do
  word ← only text ts
  Ok (leaves.Both (ops.StateAdd target word))

abbrev pub state_delete_of : Operand → List Token → Result Leaf Bad
state_delete_of target ts = do
  word ← only text ts
  Ok (leaves.Both (ops.StateDelete target word))

abbrev pub state_clear_of : Operand → List Token → Result Leaf Bad
state_clear_of target ts = do
  end ← ended ts
  Ok (leaves.Both (ops.StateClear target))

-- what the word says that is done to the states
abbrev pub state_change_of : Operand → Token → List Token → Result Leaf Bad
state_change_of target t ts =
    if is_word (spelling words.Add) t then state_add_of target ts
    else (if is_word (spelling words.Delete) t then state_delete_of target ts
    else (if is_word (spelling words.Clear) t then state_clear_of target ts
    else Err Word))

abbrev pub state_of : List Token → Result Leaf Bad
state_of ts = do
  target ← take_one node ts
  change ← next target.1
  state_change_of target.0 change.0 change.1

abbrev pub form_list_of : List Token → Result Leaf Bad
form_list_of ts = do
  target ← take_one node ts
  entries ← entries_up_to 32 target.1
  Ok (leaves.Both (ops.FormList target.0 entries))
