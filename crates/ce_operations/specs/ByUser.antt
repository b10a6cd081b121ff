-- Commands of the user.
use Rattle.rule_lines.specs.declared.line.Cmd.{Cmd}
use Rattle.rule_lines.specs.declared.line.Cmd.TheVariants as commands

-- the user does it: it is neither an operation nor a document that is made
abbrev pub IsByUser : Cmd → Type 0
IsByUser (commands.Both op) = ⊥
IsByUser (commands.Doc var) = ⊥
IsByUser c = Unit {0}
