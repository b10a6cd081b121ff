-- What an action does, without where an inner action lies in memory.
use Rattle.std.specs.Prelude.{ℕ, List, Bool, Option}
use Rattle.rule_tokens.specs.declared.callback.CallName.{CallName}
use Rattle.rule_tokens.specs.declared.operand.Operand.{Operand}
use Rattle.rule_tokens.specs.declared.operand.Val.{Val}
use Rattle.rule_lines.specs.declared.op.Op.{Op}
use Rattle.rule_lines.specs.declared.action.Action.{Action}
use Rattle.rule_lines.specs.declared.action.Action.TheVariants as code
use Rattle.rule_lines.specs.declared.line.Cmd.{Cmd}
use Rattle.rule_lines.specs.declared.line.ClassPart.{ClassPart}
use Rattle.rule_lines.specs.declared.line.ClassPart.TheVariants as parts
use Rattle.rule_lines.specs.declared.line.Line.{Line}
use Rattle.rule_lines.specs.declared.line.Line.TheVariants as lines

pub data Act : Type 0 where
  Both : Op → Act
  Log : List Val → Act
  Super : Act
  Return : Option Operand → Act
  Throw : Val → Act
  Bump : Act
  Keep : Val → Act
  Try : Act → Act
  If : Bool → Val → Val → Act → Act

abbrev pub act_of : Action → Act
act_of (code.Both op) = Both op
act_of (code.Log vals) = Log vals
act_of code.Super = Super
act_of (code.Return at) = Return at
act_of (code.Throw value) = Throw value
act_of code.Bump = Bump
act_of (code.Keep value) = Keep value
act_of (code.Try' p a) = Try (act_of a)
act_of (code.If' equal left right p a) = If equal left right (act_of a)

-- a part of a class, with its act
pub data Part : Type 0 where
  Class : List ℕ → Part
  On : List ℕ → CallName → Act → Part
  Has : List ℕ → CallName → Part
  Observe : List ℕ → List (List ℕ) → Part
  Associate : List ℕ → Part
  DisableShadow : List ℕ → Part
  DisableInternals : List ℕ → Part

abbrev pub part_of : ClassPart → Part
part_of (parts.Class name) = Class name
part_of (parts.On name call action) = On name call (act_of action)
part_of (parts.Has name call) = Has name call
part_of (parts.Observe name names) = Observe name names
part_of (parts.Associate name) = Associate name
part_of (parts.DisableShadow name) = DisableShadow name
part_of (parts.DisableInternals name) = DisableInternals name

-- what a line says
pub data Said : Type 0 where
  Blank : Said
  Command : Cmd → Said
  Declares : Part → Said

abbrev pub line_of : Line → Said
line_of lines.Blank = Blank
line_of (lines.Command c) = Command c
line_of (lines.Part p) = Declares (part_of p)
