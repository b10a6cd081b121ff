-- What each token of a line is read as, by the form that the line says.
use Rattle.std.specs.Prelude.{ℕ, Bool, true, false, List, [], ◌∷◌, ◌++◌, map, Option, Some, None}
use Rattle.ce_base.specs.declared.entries.Entry.{Entry}
use Rattle.rule_lines.specs.declared.ask_word.AskWord.{AskWord}
use Rattle.rule_lines.specs.declared.ask_word.AskWord.TheVariants as asks
use Rattle.rule_lines.specs.declared.op.Op.TheVariants as ops
use Rattle.rule_lines.specs.declared.read_as.ReadAs.{ReadAs}
use Rattle.rule_lines.specs.declared.read_as.ReadAs.TheVariants as read_as
use Rattle.rule_lines.specs.declared.word.Word.{Word}
use Rattle.rule_lines.specs.declared.word.Word.TheVariants as words
use Rattle.rule_reader.specs.declared.form.Leaf.{Leaf}
use Rattle.rule_reader.specs.declared.form.Leaf.TheVariants as leaves
use Rattle.rule_reader.specs.declared.form.Wrap.{Wrap}
use Rattle.rule_reader.specs.declared.form.Wrap.TheVariants as wraps
use Rattle.rule_reader.specs.declared.pieces.Form.{Form}

-- an optional part
abbrev pub part : {A : Type 0} → (A → ReadAs) → Option A → ReadAs
part got None = read_as.NotThere
part got (Some a) = got a

-- an optional part without an operand
abbrev pub mark : Bool → ReadAs
mark true = read_as.There
mark false = read_as.NotThere

abbrev pub switch : Bool → Word
switch true = words.On
switch false = words.Off

abbrev pub test : Bool → Word
test true = words.Eq
test false = words.Ne

abbrev pub pairs : List Entry → List ReadAs
pairs [] = []
pairs (e ∷ es) = read_as.Chars e.name ∷ read_as.Chars e.value ∷ pairs es

abbrev pub named : Option (List ℕ) → List ReadAs
named None = []
named (Some name) = read_as.Chars name ∷ []

abbrev pub ask_as : AskWord → Word
ask_as asks.Attr = words.Attr
ask_as asks.Parent = words.Parent
ask_as asks.Kids = words.Kids
ask_as asks.State = words.State
ask_as asks.Owner = words.Owner
ask_as asks.Controls = words.Controls
ask_as asks.Disabled = words.Disabled
ask_as asks.Candidate = words.Candidate
ask_as asks.Valid = words.Valid
ask_as asks.Message = words.Message
ask_as asks.Value = words.Value
ask_as asks.Saved = words.Saved
ask_as asks.Checked = words.Checked
ask_as asks.States = words.States

-- what the tokens of a form are read as
abbrev pub leaf_as_read : Leaf → List ReadAs
leaf_as_read (leaves.Both (ops.Create var local is_value document)) =
    read_as.Word words.Create ∷ read_as.Variable var ∷ read_as.Chars local ∷ part read_as.Chars is_value ∷ part read_as.Node document ∷ []
leaf_as_read (leaves.Both (ops.New var class)) = read_as.Word words.New ∷ read_as.Variable var ∷ read_as.Class class ∷ []
leaf_as_read (leaves.Both (ops.MakeText var chars document)) =
    read_as.Word words.Text ∷ read_as.Variable var ∷ read_as.Chars chars ∷ part read_as.Node document ∷ []
leaf_as_read (leaves.Both (ops.Shadow var host)) = read_as.Word words.Shadow ∷ read_as.Variable var ∷ read_as.Node host ∷ []
leaf_as_read (leaves.Both (ops.Append parent target)) = read_as.Word words.Append ∷ read_as.Node parent ∷ read_as.Node target ∷ []
leaf_as_read (leaves.Both (ops.Before parent target before)) = read_as.Word words.Before ∷ read_as.Node parent ∷ read_as.Node target ∷ read_as.Node before ∷ []
leaf_as_read (leaves.Both (ops.Remove parent target)) = read_as.Word words.Remove ∷ read_as.Node parent ∷ read_as.Node target ∷ []
leaf_as_read (leaves.Both (ops.Detach target)) = read_as.Word words.Detach ∷ read_as.Node target ∷ []
leaf_as_read (leaves.Both (ops.Clone var target deep)) = read_as.Word words.Clone ∷ read_as.Variable var ∷ read_as.Node target ∷ mark deep ∷ []
leaf_as_read (leaves.Both (ops.Adopt document target)) = read_as.Word words.Adopt ∷ read_as.Node document ∷ read_as.Node target ∷ []
leaf_as_read (leaves.Both (ops.Let var target)) = read_as.Word words.Let ∷ read_as.Variable var ∷ read_as.Node target ∷ []
leaf_as_read (leaves.Doc var) = read_as.Word words.Doc ∷ read_as.Variable var ∷ []
leaf_as_read (leaves.Both (ops.SetAttr target name val)) = read_as.Word words.SetAttr ∷ read_as.Node target ∷ read_as.Chars name ∷ read_as.Value val ∷ []
leaf_as_read (leaves.Both (ops.DelAttr target name)) = read_as.Word words.DelAttr ∷ read_as.Node target ∷ read_as.Chars name ∷ []
leaf_as_read (leaves.Both (ops.Define name class base)) = read_as.Word words.Define ∷ read_as.Chars name ∷ read_as.Class class ∷ part read_as.Chars base ∷ []
leaf_as_read (leaves.Both (ops.Upgrade target)) = read_as.Word words.Upgrade ∷ read_as.Node target ∷ []
leaf_as_read (leaves.Both (ops.Internals target)) = read_as.Word words.Internals ∷ read_as.Node target ∷ []
leaf_as_read (leaves.Both (ops.FormValue target val saved)) =
    read_as.Word words.FormValue ∷ read_as.Node target ∷ read_as.Value val ∷ part read_as.Value saved ∷ []
leaf_as_read (leaves.Both (ops.FormNull target)) = read_as.Word words.FormNull ∷ read_as.Node target ∷ []
leaf_as_read (leaves.Both (ops.Validity target flags message)) =
    read_as.Word words.Validity ∷ read_as.Node target ∷ read_as.Flags flags ∷ read_as.Value message ∷ []
leaf_as_read (leaves.Both (ops.Custom target message)) = read_as.Word words.Custom ∷ read_as.Node target ∷ read_as.Value message ∷ []
leaf_as_read (leaves.Both (ops.Reset form)) = read_as.Word words.Reset ∷ read_as.Node form ∷ []
leaf_as_read (leaves.Both (ops.Value target val)) = read_as.Word words.Value ∷ read_as.Node target ∷ read_as.Value val ∷ []
leaf_as_read (leaves.Both (ops.Check target on)) = read_as.Word words.Check ∷ read_as.Node target ∷ read_as.Word (switch on) ∷ []
leaf_as_read (leaves.Both (ops.Choose target on)) = read_as.Word words.Choose ∷ read_as.Node target ∷ read_as.Word (switch on) ∷ []
leaf_as_read (leaves.Both (ops.Submit form)) = read_as.Word words.Submit ∷ read_as.Node form ∷ []
leaf_as_read (leaves.Both (ops.Request form submitter)) = read_as.Word words.Request ∷ read_as.Node form ∷ part read_as.Node submitter ∷ []
leaf_as_read leaves.Super = read_as.Word words.Super ∷ []
leaf_as_read (leaves.Return target) = read_as.Word words.Return ∷ part read_as.Node target ∷ []
leaf_as_read (leaves.Throw val) = read_as.Word words.Throw ∷ read_as.Value val ∷ []
leaf_as_read leaves.Bump = read_as.Word words.Bump ∷ []
leaf_as_read (leaves.Keep val) = read_as.Word words.Keep ∷ read_as.Value val ∷ []
leaf_as_read (leaves.Class name) = read_as.Word words.Class ∷ read_as.Class name ∷ []
leaf_as_read (leaves.Has class call) = read_as.Word words.Has ∷ read_as.Class class ∷ read_as.Callback call ∷ []
leaf_as_read (leaves.Associate class) = read_as.Word words.Associate ∷ read_as.Class class ∷ []
leaf_as_read (leaves.UserEdit target val) = read_as.Word words.User ∷ read_as.Word words.Edit ∷ read_as.Node target ∷ read_as.Value val ∷ []
leaf_as_read (leaves.UserCheck target on) = read_as.Word words.User ∷ read_as.Word words.Check ∷ read_as.Node target ∷ read_as.Word (switch on) ∷ []
leaf_as_read (leaves.UserChoose target on) = read_as.Word words.User ∷ read_as.Word words.Choose ∷ read_as.Node target ∷ read_as.Word (switch on) ∷ []
leaf_as_read (leaves.UserReset form) = read_as.Word words.User ∷ read_as.Word words.Reset ∷ read_as.Node form ∷ []
leaf_as_read (leaves.UserRestore target val) = read_as.Word words.User ∷ read_as.Word words.Restore ∷ read_as.Node target ∷ read_as.Value val ∷ []
leaf_as_read (leaves.UserAutofill target val) = read_as.Word words.User ∷ read_as.Word words.Autofill ∷ read_as.Node target ∷ read_as.Value val ∷ []
leaf_as_read (leaves.UserPress target) = read_as.Word words.User ∷ read_as.Word words.Press ∷ read_as.Node target ∷ []
leaf_as_read (leaves.Both (ops.StateAdd target word)) = read_as.Word words.State ∷ read_as.Node target ∷ read_as.Word words.Add ∷ read_as.Chars word ∷ []
leaf_as_read (leaves.Both (ops.StateDelete target word)) = read_as.Word words.State ∷ read_as.Node target ∷ read_as.Word words.Delete ∷ read_as.Chars word ∷ []
leaf_as_read (leaves.Both (ops.StateClear target)) = read_as.Word words.State ∷ read_as.Node target ∷ read_as.Word words.Clear ∷ []
leaf_as_read (leaves.Both (ops.FormList target entries)) = read_as.Word words.FormList ∷ read_as.Node target ∷ pairs entries
leaf_as_read (leaves.Both (ops.Ask what target name)) = read_as.Word words.Ask ∷ read_as.Word (ask_as what) ∷ read_as.Node target ∷ named name
leaf_as_read (leaves.Log vals) = read_as.Word words.Log ∷ map read_as.Value vals
leaf_as_read (leaves.Observe class names) = read_as.Word words.Observe ∷ read_as.Class class ∷ map read_as.Chars names
leaf_as_read (leaves.DisableShadow class) = read_as.Word words.Disable ∷ read_as.Class class ∷ read_as.Word words.Shadow ∷ []
leaf_as_read (leaves.DisableInternals class) = read_as.Word words.Disable ∷ read_as.Class class ∷ read_as.Word words.Internals ∷ []

-- what the tokens of a form up to its action are read as
abbrev pub wrap_as_read : Wrap → List ReadAs
wrap_as_read (wraps.On class call) = read_as.Word words.On ∷ read_as.Class class ∷ read_as.Callback call ∷ read_as.Word words.Colon ∷ []
wrap_as_read wraps.Try = read_as.Word words.Try ∷ []
wrap_as_read (wraps.If equal left right) =
    read_as.Word words.If ∷ read_as.Word (test equal) ∷ read_as.Value left ∷ read_as.Value right ∷ read_as.Word words.Colon ∷ []

abbrev pub wraps_as_read : List Wrap → List ReadAs → List ReadAs
wraps_as_read [] inside = inside
wraps_as_read (w ∷ ws) inside = wrap_as_read w ++ wraps_as_read ws inside

-- what the tokens of a line are read as
abbrev pub form_as_read : Form → List ReadAs
form_as_read f = wraps_as_read f.wraps (leaf_as_read f.leaf)
