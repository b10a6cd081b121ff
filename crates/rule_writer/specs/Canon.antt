-- The canonical tokens of what a line says.
use Rattle.std.specs.Prelude.{List, [], ◌∷◌, ◌++◌}
use Rattle.rule_tokens.specs.declared.operand.Val.TheVariants as values
use Rattle.rule_tokens.specs.declared.token.Token.{Token}
use Rattle.rule_lines.specs.Acts.{Act, Part, Said, Blank, Command, Declares}
use Rattle.rule_lines.specs.Acts as acts
use Rattle.rule_lines.specs.declared.line.Cmd.{Cmd}
use Rattle.rule_lines.specs.declared.line.Cmd.TheVariants as commands
use Rattle.rule_lines.specs.declared.op.Op.TheVariants as ops
use Rattle.rule_lines.specs.Canon.{all_tokens, keyed}
use Rattle.rule_lines.specs.declared.read_as.ReadAs.TheVariants as read_as
use Rattle.rule_lines.specs.declared.keyword.Keyword.TheVariants as keywords
use Rattle.rule_lines.specs.declared.word.Word.TheVariants as words
use Rattle.rule_reader.specs.declared.form.Leaf.{Leaf}
use Rattle.rule_reader.specs.declared.form.Leaf.TheVariants as leaves
use Rattle.rule_reader.specs.declared.form.Wrap.{Wrap}
use Rattle.rule_reader.specs.declared.form.Wrap.TheVariants as wraps
use Rattle.rule_reader.specs.declared.pieces.Form.{Form}
use Rattle.rule_reader.specs.AsRead.{mark, part, leaf_as_read, wrap_as_read}

-- of a form without an action: those with keywords, and all others, each of whose operands has a token
abbrev pub leaf_tokens : Leaf → List Token
leaf_tokens (leaves.Both (ops.Create var local is_value document)) =
    all_tokens (read_as.Word words.Create ∷ read_as.Variable var ∷ read_as.Chars local ∷ [])
    ++ (keyed keywords.Is (part read_as.Chars is_value) ++ (keyed keywords.In (part read_as.Node document) ++ []))
leaf_tokens (leaves.Both (ops.MakeText var chars document)) =
    all_tokens (read_as.Word words.Text ∷ read_as.Variable var ∷ read_as.Chars chars ∷ []) ++ (keyed keywords.In (part read_as.Node document) ++ [])
leaf_tokens (leaves.Both (ops.Clone var place deep)) =
    all_tokens (read_as.Word words.Clone ∷ read_as.Variable var ∷ read_as.Node place ∷ []) ++ (keyed keywords.Deep (mark deep) ++ [])
leaf_tokens (leaves.Both (ops.Define name class base)) =
    all_tokens (read_as.Word words.Define ∷ read_as.Chars name ∷ read_as.Class class ∷ []) ++ (keyed keywords.Extends (part read_as.Chars base) ++ [])
leaf_tokens (leaves.Both (ops.FormValue place val saved)) =
    all_tokens (read_as.Word words.FormValue ∷ read_as.Node place ∷ read_as.Value val ∷ []) ++ (keyed keywords.State (part read_as.Value saved) ++ [])
leaf_tokens leaf = all_tokens (leaf_as_read leaf)

-- of what stands around an action
abbrev pub wrap_tokens : Wrap → List Token
wrap_tokens w = all_tokens (wrap_as_read w)

abbrev pub wraps_tokens : List Wrap → List Token → List Token
wraps_tokens [] inside = inside
wraps_tokens (w ∷ ws) inside = wrap_tokens w ++ wraps_tokens ws inside

-- of a flat form
abbrev pub form_tokens : Form → List Token
form_tokens f = wraps_tokens f.wraps (leaf_tokens f.leaf)

-- of an action
abbrev pub act_tokens : Act → List Token
act_tokens (acts.Both op) = leaf_tokens (leaves.Both op)
act_tokens (acts.Log vals) = leaf_tokens (leaves.Log vals)
act_tokens acts.Super = leaf_tokens leaves.Super
act_tokens (acts.Return place) = leaf_tokens (leaves.Return place)
act_tokens (acts.Throw val) = leaf_tokens (leaves.Throw val)
act_tokens acts.Bump = leaf_tokens leaves.Bump
act_tokens (acts.Keep val) = leaf_tokens (leaves.Keep val)
act_tokens (acts.Try act) = wrap_tokens wraps.Try ++ act_tokens act
act_tokens (acts.If equal left right act) = wrap_tokens (wraps.If equal left right) ++ act_tokens act

-- of a part of a class
abbrev pub part_tokens : Part → List Token
part_tokens (acts.Class name) = leaf_tokens (leaves.Class name)
part_tokens (acts.On class call act) = wrap_tokens (wraps.On class call) ++ act_tokens act
part_tokens (acts.Has class call) = leaf_tokens (leaves.Has class call)
part_tokens (acts.Observe class names) = leaf_tokens (leaves.Observe class names)
part_tokens (acts.Associate class) = leaf_tokens (leaves.Associate class)
part_tokens (acts.DisableShadow class) = leaf_tokens (leaves.DisableShadow class)
part_tokens (acts.DisableInternals class) = leaf_tokens (leaves.DisableInternals class)

-- of a command; what a user enters is a text
abbrev pub command_tokens : Cmd → List Token
command_tokens (commands.Both op) = leaf_tokens (leaves.Both op)
command_tokens (commands.Doc var) = leaf_tokens (leaves.Doc var)
command_tokens (commands.UserEdit place text) = leaf_tokens (leaves.UserEdit place (values.Fixed text))
command_tokens (commands.UserCheck place on) = leaf_tokens (leaves.UserCheck place on)
command_tokens (commands.UserChoose place on) = leaf_tokens (leaves.UserChoose place on)
command_tokens (commands.UserReset form) = leaf_tokens (leaves.UserReset form)
command_tokens (commands.UserRestore place text) = leaf_tokens (leaves.UserRestore place (values.Fixed text))
command_tokens (commands.UserAutofill place text) = leaf_tokens (leaves.UserAutofill place (values.Fixed text))
command_tokens (commands.UserPress place) = leaf_tokens (leaves.UserPress place)

-- of a line; a blank one has none
abbrev pub said_tokens : Said → List Token
said_tokens Blank = []
said_tokens (Command c) = command_tokens c
said_tokens (Declares p) = part_tokens p
