-- The forms with an action behind them.
use Rattle.std.specs.Prelude.{Bool, true, false, List, Option, Some, None, Result, Ok, Err, if◌then◌else◌}
use Rattle.rule_tokens.specs.declared.refused.Bad.{Bad}
use Rattle.rule_tokens.specs.declared.refused.Bad.TheVariants as bad
use Rattle.rule_tokens.specs.declared.operand.Val.{Val}
use Rattle.rule_tokens.specs.declared.token.Token.{Token}
use Rattle.rule_tokens.specs.Gives.{◌>>=◌}
use Rattle.rule_tokens.specs.OperandForms.{is_word, class_name, value, call_name}
use Rattle.rule_lines.specs.declared.word.Word.{Word}
use Rattle.rule_lines.specs.declared.word.Word.TheVariants as words
use Rattle.rule_lines.specs.FixedWords.{spelling}
use Rattle.rule_reader.specs.declared.form.Wrap.{Wrap}
use Rattle.rule_reader.specs.declared.form.Wrap.TheVariants as wraps
use Rattle.rule_reader.specs.Takes.{take_one, behind}

abbrev pub on_of : List Token → Result (Wrap × List Token) Bad
on_of ts = do
  class ← take_one class_name ts
  call ← take_one call_name class.1
  rest ← behind (spelling words.Colon) call.1
  Ok (wraps.On class.0 call.0, rest)

-- bare eq or ne
abbrev pub comparison : Token → Option Bool
comparison t = if is_word (spelling words.Eq) t then Some true else (if is_word (spelling words.Ne) t then Some false else None)

-- a comparison and the two values that it compares
abbrev pub compared : List Token → Result ((Bool × Val × Val) × List Token) Bad
compared ts = do
  equal ← take_one comparison ts
  left ← take_one value equal.1
  right ← take_one value left.1
  Ok ((equal.0, left.0, right.0), right.1)

abbrev pub if_of : List Token → Result (Wrap × List Token) Bad
if_of ts = do
  test ← compared ts
  rest ← behind (spelling words.Colon) test.1
  Ok (wraps.If test.0.0 test.0.1 test.0.2, rest)

-- an action stands behind the form with this first word
abbrev pub is_wrap : Word → Bool
is_wrap words.On = true
is_wrap words.Try = true
is_wrap words.If = true
is_wrap _ = false

-- what stands around the action, and the action's tokens
abbrev pub wrap_of : Word → List Token → Result (Wrap × List Token) Bad
wrap_of words.On ts = on_of ts
wrap_of words.Try ts = Ok (wraps.Try, ts)
wrap_of words.If ts = if_of ts
wrap_of _ ts = Err bad.Word
