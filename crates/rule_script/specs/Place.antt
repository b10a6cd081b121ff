-- What a form says where it stands, and where no form may stand.
use Rattle.std.specs.Prelude.{ℕ, Bool, true, false, ◌&&◌, ◌||◌, not, nat_lt, List, [], ◌∷◌, length, Option, Some, None, Result, Ok, Err, if◌then◌else◌}
use Rattle.std.specs.List.{list_any}
use Rattle.std.specs.Option.{option_map, option_and_then}
use Rattle.rule_tokens.specs.declared.callback.CallName.{CallName}
use Rattle.rule_tokens.specs.declared.callback.CallName.TheVariants as calls
use Rattle.rule_tokens.specs.declared.operand.Operand.{Operand}
use Rattle.rule_tokens.specs.declared.operand.Operand.TheVariants as operands
use Rattle.rule_tokens.specs.declared.operand.Val.{Val}
use Rattle.rule_tokens.specs.declared.operand.Val.TheVariants as values
use Rattle.rule_tokens.specs.declared.refused.Bad.{Bad}
use Rattle.rule_tokens.specs.declared.refused.Bad.TheVariants as bad
use Rattle.rule_lines.specs.declared.line.Cmd.TheVariants as commands
use Rattle.rule_lines.specs.Acts.{Act, Said, Command, Declares}
use Rattle.rule_lines.specs.Acts as acts
use Rattle.rule_lines.specs.declared.read_as.ReadAs.{ReadAs}
use Rattle.rule_lines.specs.declared.read_as.ReadAs.TheVariants as read_as
use Rattle.rule_reader.specs.declared.form.Leaf.{Leaf}
use Rattle.rule_reader.specs.declared.form.Leaf.TheVariants as leaves
use Rattle.rule_reader.specs.declared.form.Wrap.{Wrap}
use Rattle.rule_reader.specs.declared.form.Wrap.TheVariants as wraps
use Rattle.rule_reader.specs.declared.pieces.Form.{Form}
use Rattle.rule_reader.specs.AsRead.{leaf_as_read}

-- ---- what a form says

-- at top level: a command or a part of a class. A word of bodies says nothing there, nor what a user enters by an @
abbrev pub said_at_top : Leaf → Option Said
said_at_top (leaves.Both op) = Some (Command (commands.Both op))
said_at_top (leaves.Doc var) = Some (Command (commands.Doc var))
said_at_top (leaves.UserEdit target (values.Fixed text)) = Some (Command (commands.UserEdit target text))
said_at_top (leaves.UserCheck target on) = Some (Command (commands.UserCheck target on))
said_at_top (leaves.UserChoose target on) = Some (Command (commands.UserChoose target on))
said_at_top (leaves.UserReset form) = Some (Command (commands.UserReset form))
said_at_top (leaves.UserRestore target (values.Fixed text)) = Some (Command (commands.UserRestore target text))
said_at_top (leaves.UserAutofill target (values.Fixed text)) = Some (Command (commands.UserAutofill target text))
said_at_top (leaves.UserPress target) = Some (Command (commands.UserPress target))
said_at_top (leaves.Class name) = Some (Declares (acts.Class name))
said_at_top (leaves.Has class call) = Some (Declares (acts.Has class call))
said_at_top (leaves.Observe class names) = Some (Declares (acts.Observe class names))
said_at_top (leaves.Associate class) = Some (Declares (acts.Associate class))
said_at_top (leaves.DisableShadow class) = Some (Declares (acts.DisableShadow class))
said_at_top (leaves.DisableInternals class) = Some (Declares (acts.DisableInternals class))
said_at_top _ = None

-- in a body: an action. A word of the top level says nothing there
abbrev pub said_in_body : Leaf → Option Act
said_in_body (leaves.Both op) = Some (acts.Both op)
said_in_body (leaves.Log vals) = Some (acts.Log vals)
said_in_body leaves.Super = Some acts.Super
said_in_body (leaves.Return target) = Some (acts.Return target)
said_in_body (leaves.Throw val) = Some (acts.Throw val)
said_in_body leaves.Bump = Some acts.Bump
said_in_body (leaves.Keep val) = Some (acts.Keep val)
said_in_body _ = None

-- an action with these around it, from the outside in; no `on` stands in a body
abbrev pub nested : List Wrap → Act → Option Act
nested [] act = Some act
nested (wraps.Try ∷ ws) act = option_map acts.Try (nested ws act)
nested (wraps.If equal left right ∷ ws) act = option_map (acts.If equal left right) (nested ws act)
nested (wraps.On class call ∷ ws) act = None

-- an action of a body: only an `on` is around it at top level
abbrev pub declared : Wrap → Act → Option Said
declared (wraps.On class call) act = Some (Declares (acts.On class call act))
declared _ act = None

-- an action in what stands around it: this at top level, and these inside it
abbrev pub said_of_body : Wrap → List Wrap → Act → Option Said
said_of_body w ws act = option_and_then (declared w) (nested ws act)

abbrev pub said_within : List Wrap → Leaf → Option Said
said_within [] leaf = said_at_top leaf
said_within (w ∷ ws) leaf = option_and_then (said_of_body w ws) (said_in_body leaf)

-- what a form says; None where a word of bodies stands at top level, or what a user enters by an @, or a word of the top
-- level in a body
abbrev pub said_of : Form → Option Said
said_of f = said_within f.wraps f.leaf

-- ---- what is barred all the same

abbrev pub is_this : Operand → Bool
is_this operands.This = true
is_this _ = false

-- a text stands at top level; what @ names is known in a body alone
abbrev pub is_of_body : Val → Bool
is_of_body (values.Fixed text) = false
is_of_body _ = true

-- `this`, or a value with @
abbrev pub names_body : ReadAs → Bool
names_body (read_as.Node target) = is_this target
names_body (read_as.Value val) = is_of_body val
names_body _ = false

-- some operand is `this` or a value with @
abbrev pub has_body_operand : Leaf → Bool
has_body_operand leaf = list_any names_body (leaf_as_read leaf)

abbrev pub is_base_call : Leaf → Bool
is_base_call leaves.Super = true
is_base_call _ = false

abbrev pub is_constructor : CallName → Bool
is_constructor calls.Constructor = true
is_constructor _ = false

-- how many `try` and `if` may stand around an action
abbrev pub deepest : ℕ
deepest = 8

-- under this and these inside it
abbrev pub is_barred_in_body : Wrap → List Wrap → Leaf → Bool
is_barred_in_body (wraps.On class call) ws leaf = (is_base_call leaf && not (is_constructor call)) || nat_lt deepest (length ws)
is_barred_in_body _ ws leaf = false

abbrev pub is_barred_within : List Wrap → Leaf → Bool
is_barred_within [] leaf = has_body_operand leaf
is_barred_within (w ∷ ws) leaf = is_barred_in_body w ws leaf

-- `this` or a value with @ stands at top level, `super` in a body other than the constructor's, or an action under
-- too many `try` and `if`
abbrev pub is_barred : Form → Bool
is_barred f = is_barred_within f.wraps f.leaf

-- ---- both

abbrev pub or_place : {A : Type 0} → Option A → Result A Bad
or_place None = Err bad.Place
or_place (Some a) = Ok a

abbrev pub placed_within : List Wrap → Leaf → Result Said Bad
placed_within ws leaf = if is_barred_within ws leaf then Err bad.Place else or_place (said_within ws leaf)

-- what a form says, if it may stand where it stands
abbrev pub placed : Form → Result Said Bad
placed f = placed_within f.wraps f.leaf
