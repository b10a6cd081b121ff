-- What a user does.
use Rattle.std.specs.Prelude.{List, Result, Ok, Err, if◌then◌else◌}
use Rattle.rule_tokens.specs.declared.refused.Bad.{Bad}
use Rattle.rule_tokens.specs.declared.refused.Bad.TheVariants.{Word}
use Rattle.rule_tokens.specs.declared.token.Token.{Token}
use Rattle.rule_tokens.specs.Gives.{◌>>=◌}
use Rattle.rule_tokens.specs.OperandForms.{is_word, node, value}
use Rattle.rule_lines.specs.declared.word.Word.TheVariants as words
use Rattle.rule_lines.specs.FixedWords.{spelling}
use Rattle.rule_reader.specs.declared.form.Leaf.{Leaf}
use Rattle.rule_reader.specs.declared.form.Leaf.TheVariants as leaves
use Rattle.rule_reader.specs.Shapes.{only, two}
use Rattle.rule_reader.specs.Takes.{next, on_off}

abbrev pub edit_of : List Token → Result Leaf Bad
edit_of ts = do
  both ← two node value ts
  Ok (leaves.UserEdit both.0 both.1)

abbrev pub check_of : List Token → Result Leaf Bad
check_of ts = do
  both ← two node on_off ts
  Ok (leaves.UserCheck both.0 both.1)

abbrev pub choose_of : List Token → Result Leaf Bad
choose_of ts = do
  both ← two node on_off ts
  Ok (leaves.UserChoose both.0 both.1)

abbrev pub reset_of : List Token → Result Leaf Bad
reset_of ts = do
  target ← only node ts
  Ok (leaves.UserReset target)

abbrev pub restore_of : List Token → Result Leaf Bad
restore_of ts = do
  both ← two node value ts
  Ok (leaves.UserRestore both.0 both.1)

abbrev pub autofill_of : List Token → Result Leaf Bad
autofill_of ts = do
  both ← two node value ts
  Ok (leaves.UserAutofill both.0 both.1)

abbrev pub press_of : List Token → Result Leaf Bad
press_of ts = do
  target ← only node ts
  Ok (leaves.UserPress target)

-- what the word says that the user does
abbrev pub deed_of : Token → List Token → Result Leaf Bad
deed_of t ts =
    if is_word (spelling words.Edit) t then edit_of ts
    else (if is_word (spelling words.Check) t then check_of ts
    else (if is_word (spelling words.Choose) t then choose_of ts
    else (if is_word (spelling words.Reset) t then reset_of ts
    else (if is_word (spelling words.Restore) t then restore_of ts
    else (if is_word (spelling words.Autofill) t then autofill_of ts
    else (if is_word (spelling words.Press) t then press_of ts
    else Err Word))))))

abbrev pub user_of : List Token → Result Leaf Bad
user_of ts = do
  first ← next ts
  deed_of first.0 first.1
