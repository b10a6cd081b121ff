-- The texts that an action's values name in the body of a class.
use Rattle.std.specs.Prelude.{ℕ, List, [], option_map}
use Rattle.std.specs.Fmt.{decimal}
use Rattle.rule_tokens.specs.declared.operand.Val.{Val}
use Rattle.rule_tokens.specs.declared.operand.Val.TheVariants.{Fixed, Count, Kept, First, Second, Third}
use Rattle.rule_lines.specs.declared.op.Op.{Op}
use Rattle.rule_lines.specs.declared.op.Op.TheVariants as ops
use Rattle.reaction_queue.specs.declared.reaction.Reaction.{Reaction}
use Rattle.reaction_queue.specs.declared.reaction.Reaction.TheVariants.{Adopted, Attribute, FormAssociated, FormDisabled, FormStateRestore}
use Rattle.reaction_queue.specs.Queues.{or_empty}
use Rattle.ce_algorithms.specs.State.{Memory}
use Rattle.ce_events.specs.Text as text

-- the texts of a callback's arguments
pub record Args : Type 0 where
  pub first : List ℕ
  pub second : List ℕ
  pub third : List ℕ

abbrev pub no_args : Args
no_args = record { first = []; second = []; third = [] }

-- null, and an argument that is absent, is the empty text
abbrev pub args_of : Reaction → Args
args_of (Adopted old new) = record no_args { first = text.node old; second = text.node new }
args_of (Attribute name old new) = record { first = name; second = or_empty old; third = or_empty new }
args_of (FormAssociated form) = record no_args { first = or_empty (option_map text.node form) }
args_of (FormDisabled disabled) = record no_args { first = text.truth disabled }
args_of (FormStateRestore state why) = record no_args { first = state; second = text.mode why }
args_of r = no_args

-- the text that a value names
abbrev pub text_of : Memory → Args → Val → List ℕ
text_of memory args (Fixed t) = t
text_of memory args Count = decimal memory.count
text_of memory args Kept = memory.kept
text_of memory args First = args.first
text_of memory args Second = args.second
text_of memory args Third = args.third

-- the value as the text that it names
abbrev pub fixed_value : Memory → Args → Val → Val
fixed_value memory args value = Fixed (text_of memory args value)

-- an operation with its texts as they are where a body reaches it; every operation has its row
abbrev pub fixed : Memory → Args → Op → Op
fixed memory args (ops.Create var local is within) = ops.Create var local is within
fixed memory args (ops.New var class) = ops.New var class
fixed memory args (ops.MakeText var chars within) = ops.MakeText var chars within
fixed memory args (ops.Shadow var host) = ops.Shadow var host
fixed memory args (ops.Append parent child) = ops.Append parent child
fixed memory args (ops.Before parent child before) = ops.Before parent child before
fixed memory args (ops.Remove parent child) = ops.Remove parent child
fixed memory args (ops.Detach child) = ops.Detach child
fixed memory args (ops.SetAttr at name value) = ops.SetAttr at name (fixed_value memory args value)
fixed memory args (ops.DelAttr at name) = ops.DelAttr at name
fixed memory args (ops.Clone var at deep) = ops.Clone var at deep
fixed memory args (ops.Adopt within at) = ops.Adopt within at
fixed memory args (ops.Define name class base) = ops.Define name class base
fixed memory args (ops.Upgrade at) = ops.Upgrade at
fixed memory args (ops.Reset form) = ops.Reset form
fixed memory args (ops.Internals at) = ops.Internals at
fixed memory args (ops.FormValue at value saved) = ops.FormValue at (fixed_value memory args value) (option_map (fixed_value memory args) saved)
fixed memory args (ops.FormList at entries) = ops.FormList at entries
fixed memory args (ops.FormNull at) = ops.FormNull at
fixed memory args (ops.Validity at flags message) = ops.Validity at flags (fixed_value memory args message)
fixed memory args (ops.StateAdd at word) = ops.StateAdd at word
fixed memory args (ops.StateDelete at word) = ops.StateDelete at word
fixed memory args (ops.StateClear at) = ops.StateClear at
fixed memory args (ops.Custom at message) = ops.Custom at (fixed_value memory args message)
fixed memory args (ops.Value at value) = ops.Value at (fixed_value memory args value)
fixed memory args (ops.Check at on) = ops.Check at on
fixed memory args (ops.Choose at on) = ops.Choose at on
fixed memory args (ops.Submit form) = ops.Submit form
fixed memory args (ops.Request form submitter) = ops.Request form submitter
fixed memory args (ops.Ask word at name) = ops.Ask word at name
fixed memory args (ops.Let var at) = ops.Let var at

-- the text of a value that was fixed
abbrev pub fixed_text : Val → List ℕ
fixed_text (Fixed t) = t
fixed_text value = []
