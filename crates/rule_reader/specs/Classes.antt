-- The forms of classes.
use Rattle.std.specs.Prelude.{ℕ, List, Result, Ok, Err, if◌then◌else◌}
use Rattle.rule_tokens.specs.declared.refused.Bad.{Bad}
use Rattle.rule_tokens.specs.declared.refused.Bad.TheVariants.{Word}
use Rattle.rule_tokens.specs.declared.token.Token.{Token}
use Rattle.rule_tokens.specs.Gives.{◌>>=◌}
use Rattle.rule_tokens.specs.OperandForms.{is_word, class_name, text, call_name}
use Rattle.rule_lines.specs.declared.word.Word.TheVariants as words
use Rattle.rule_lines.specs.FixedWords.{spelling}
use Rattle.rule_reader.specs.declared.form.Leaf.{Leaf}
use Rattle.rule_reader.specs.declared.form.Leaf.TheVariants as leaves
use Rattle.rule_reader.specs.Shapes.{only}
use Rattle.rule_reader.specs.Takes.{next, take_one, up_to, ended}

abbrev pub class_of : List Token → Result Leaf Bad
class_of ts = do
  name ← only class_name ts
  Ok (leaves.Class name)

abbrev pub has_of : List Token → Result Leaf Bad
has_of ts = do
  class ← take_one class_name ts
  call ← take_one call_name class.1
  end ← ended call.1
  Ok (leaves.Has class.0 call.0)

abbrev pub associate_of : List Token → Result Leaf Bad
associate_of ts = do
  class ← only class_name ts
  Ok (leaves.Associate class)

abbrev pub observe_of : List Token → Result Leaf Bad
observe_of ts = do
  class ← take_one class_name ts
  first ← next class.1
  names ← up_to 16 text class.1
  Ok (leaves.Observe class.0 names)

-- what the word says that is disabled
abbrev pub disabled_of : List ℕ → Token → List Token → Result Leaf Bad
disabled_of class t ts =
    if is_word (spelling words.Shadow) t then (ended ts >>= λ end. Ok (leaves.DisableShadow class))
    else (if is_word (spelling words.Internals) t then (ended ts >>= λ end. Ok (leaves.DisableInternals class))
    else Err Word)

abbrev pub disable_of : List Token → Result Leaf Bad
disable_of ts = do
  class ← take_one class_name ts
  what ← next class.1
  disabled_of class.0 what.0 what.1
