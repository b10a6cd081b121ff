-- The forms of bodies.
use Rattle.std.specs.Prelude.{List, Result, Ok}
use Rattle.rule_tokens.specs.declared.refused.Bad.{Bad}
use Rattle.rule_tokens.specs.declared.token.Token.{Token}
use Rattle.rule_tokens.specs.Gives.{◌>>=◌}
use Rattle.rule_tokens.specs.OperandForms.{node, value}
use Rattle.rule_reader.specs.declared.form.Leaf.{Leaf}
use Rattle.rule_reader.specs.declared.form.Leaf.TheVariants as leaves
use Rattle.rule_reader.specs.Shapes.{only}
use Rattle.rule_reader.specs.Takes.{next, maybe, up_to, ended}

abbrev pub base_call_of : List Token → Result Leaf Bad
base_call_of ts = do
  end ← ended ts
  Ok leaves.Super

abbrev pub return_form_of : List Token → Result Leaf Bad
return_form_of ts = do
  target ← maybe node ts
  end ← ended target.1
  Ok (leaves.Return target.0)

abbrev pub throw_of : List Token → Result Leaf Bad
throw_of ts = do
  val ← only value ts
  Ok (leaves.Throw val)

abbrev pub bump_of : List Token → Result Leaf Bad
bump_of ts = do
  end ← ended ts
  Ok leaves.Bump

abbrev pub keep_of : List Token → Result Leaf Bad
keep_of ts = do
  val ← only value ts
  Ok (leaves.Keep val)

abbrev pub log_of : List Token → Result Leaf Bad
log_of ts = do
  first ← next ts
  values ← up_to 8 value ts
  Ok (leaves.Log values)
