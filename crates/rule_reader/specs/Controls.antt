-- The forms for forms and their controls.
use Rattle.std.specs.Prelude.{ℕ, List, Option, Some, None, Result, Ok, if◌then◌else◌}
use Rattle.rule_lines.specs.AskWords.{ask_named}
use Rattle.rule_lines.specs.declared.ask_word.AskWord.{AskWord}
use Rattle.rule_lines.specs.declared.ask_word.AskWord.TheVariants as asks
use Rattle.rule_tokens.specs.declared.refused.Bad.{Bad}
use Rattle.rule_tokens.specs.declared.token.Token.{Token}
use Rattle.rule_tokens.specs.Gives.{◌>>=◌}
use Rattle.rule_tokens.specs.OperandForms.{node, text, value}
use Rattle.rule_lines.specs.declared.op.Op.TheVariants as ops
use Rattle.rule_reader.specs.declared.form.Leaf.{Leaf}
use Rattle.rule_reader.specs.declared.form.Leaf.TheVariants as leaves
use Rattle.rule_reader.specs.Shapes.{only, two}
use Rattle.rule_reader.specs.Takes.{take_one, maybe, ended, on_off}

abbrev pub reset_of : List Token → Result Leaf Bad
reset_of ts = do
  target ← only node ts
  Ok (leaves.Both (ops.Reset target))

abbrev pub value_of : List Token → Result Leaf Bad
value_of ts = do
  both ← two node value ts
  Ok (leaves.Both (ops.Value both.0 both.1))

abbrev pub check_of : List Token → Result Leaf Bad
check_of ts = do
  both ← two node on_off ts
  Ok (leaves.Both (ops.Check both.0 both.1))

abbrev pub choose_of : List Token → Result Leaf Bad
choose_of ts = do
  both ← two node on_off ts
  Ok (leaves.Both (ops.Choose both.0 both.1))

abbrev pub submit_of : List Token → Result Leaf Bad
submit_of ts = do
  target ← only node ts
  Ok (leaves.Both (ops.Submit target))

abbrev pub request_of : List Token → Result Leaf Bad
request_of ts = do
  target ← take_one node ts
  submitter ← maybe node target.1
  end ← ended submitter.1
  Ok (leaves.Both (ops.Request target.0 submitter.0))

-- the name of an attribute, where one is asked for
abbrev pub name_for : AskWord → List Token → Result (Option (List ℕ) × List Token) Bad
name_for asks.Attr ts = take_one text ts >>= λ name. Ok (Some name.0, name.1)
name_for _ ts = Ok (None, ts)

-- what the bare token asks
abbrev pub asked : Token → Option AskWord
asked t = if t.quoted then None else ask_named t.text

abbrev pub ask_of : List Token → Result Leaf Bad
ask_of ts = do
  what ← take_one asked ts
  target ← take_one node what.1
  name ← name_for what.0 target.1
  end ← ended name.1
  Ok (leaves.Both (ops.Ask what.0 target.0 name.0))
