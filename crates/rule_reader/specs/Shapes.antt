-- The shapes that several forms have: so many operands, and no token after them.
use Rattle.std.specs.Prelude.{List, Option, Some, None, Result, Ok, if◌then◌else◌}
use Rattle.rule_tokens.specs.declared.refused.Bad.{Bad}
use Rattle.rule_tokens.specs.declared.token.Token.{Token}
use Rattle.rule_tokens.specs.Gives.{◌>>=◌}
use Rattle.rule_lines.specs.declared.keyword.Keyword.{Keyword}
use Rattle.rule_reader.specs.Takes.{take_one, marked, ended}

-- one operand
abbrev pub only : {A : Type 0} → (Token → Option A) → List Token → Result A Bad
only kind ts = do
  a ← take_one kind ts
  end ← ended a.1
  Ok a.0

-- an operand behind a keyword, if the bare keyword stands next
abbrev pub only_behind : {A : Type 0} → Keyword → (Token → Option A) → List Token → Result (Option A) Bad
only_behind word kind ts = if (marked word ts).0 then (only kind (marked word ts).1 >>= λ a. Ok (Some a)) else (ended (marked word ts).1 >>= λ end. Ok None)

-- two operands
abbrev pub two : {A B : Type 0} → (Token → Option A) → (Token → Option B) → List Token → Result (A × B) Bad
two first second ts = do
  a ← take_one first ts
  b ← only second a.1
  Ok (a.0, b)
