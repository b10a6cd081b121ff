-- What the tokens of a line are read as tells the form: it can be had back.
use Rattle.std.proofs.Common.{◌≡◌, ◌<◌, ◌+◌, ℕ, zero, suc, length, arith, Bool, true, false, List, [], ◌∷◌, map, Option, Some, None, refl, sym, ap, ◌∙◌}
use Rattle.ce_base.specs.declared.entries.Entry.{Entry}
use Rattle.ce_base.specs.declared.flags.Flags.{Flags}
use Rattle.rule_tokens.specs.declared.callback.CallName.{CallName}
use Rattle.rule_tokens.specs.declared.callback.CallName.TheVariants.{Constructor}
use Rattle.rule_tokens.specs.declared.operand.Operand.{Operand}
use Rattle.rule_tokens.specs.declared.operand.Operand.TheVariants.{Doc}
use Rattle.rule_tokens.specs.declared.operand.Val.{Val}
use Rattle.rule_tokens.specs.declared.operand.Val.TheVariants.{Count}
use Rattle.rule_lines.specs.declared.ask_word.AskWord.{AskWord}
use Rattle.rule_lines.specs.declared.ask_word.AskWord.TheVariants as asks
use Rattle.rule_lines.specs.declared.op.Op.TheVariants as ops
use Rattle.rule_lines.specs.declared.read_as.ReadAs.{ReadAs}
use Rattle.rule_lines.specs.declared.read_as.ReadAs.TheVariants as read_as
use Rattle.rule_lines.specs.declared.word.Word.{Word}
use Rattle.rule_lines.specs.declared.word.Word.TheVariants as words
use Rattle.rule_reader.specs.declared.form.Leaf.{Leaf}
use Rattle.rule_reader.specs.declared.form.Leaf.TheVariants as leaves
use Rattle.rule_reader.specs.declared.form.Wrap.{Wrap}
use Rattle.rule_reader.specs.declared.form.Wrap.TheVariants as wraps
use Rattle.rule_reader.specs.declared.pieces.Form.{Form}
use Rattle.rule_reader.specs.AsRead.{pairs, named, ask_as, leaf_as_read, wraps_as_read}
use Rattle.rule_reader.specs.Laws.{OperandsTellForms}
use Rattle.rule_reader.specs.Pieces.{form}

-- ---- one operand had back; another kind of operand gives something of the wanted kind

abbrev variable_in : ReadAs → List ℕ
variable_in (read_as.Variable x) = x
variable_in _ = []

abbrev node_in : ReadAs → Operand
node_in (read_as.Node x) = x
node_in _ = Doc

abbrev class_in : ReadAs → List ℕ
class_in (read_as.Class x) = x
class_in _ = []

abbrev chars_in : ReadAs → List ℕ
chars_in (read_as.Chars x) = x
chars_in _ = []

abbrev value_in : ReadAs → Val
value_in (read_as.Value x) = x
value_in _ = Count

abbrev flags_in : Flags → ReadAs → Flags
flags_in other (read_as.Flags x) = x
flags_in other _ = other

abbrev callback_in : ReadAs → CallName
callback_in (read_as.Callback x) = x
callback_in _ = Constructor

abbrev word_in : ReadAs → Word
word_in (read_as.Word x) = x
word_in _ = words.Colon

abbrev maybe_chars : ReadAs → Option (List ℕ)
maybe_chars (read_as.Chars x) = Some x
maybe_chars _ = None

abbrev maybe_node : ReadAs → Option Operand
maybe_node (read_as.Node x) = Some x
maybe_node _ = None

abbrev maybe_value : ReadAs → Option Val
maybe_value (read_as.Value x) = Some x
maybe_value _ = None

abbrev marked_in : ReadAs → Bool
marked_in read_as.There = true
marked_in _ = false

-- ---- operands by their places

abbrev at0 : List ReadAs → ReadAs
at0 [] = read_as.NotThere
at0 (g ∷ gs) = g

abbrev rest : List ReadAs → List ReadAs
rest [] = []
rest (g ∷ gs) = gs

abbrev at1 : List ReadAs → ReadAs
at1 gs = at0 (rest gs)

abbrev at2 : List ReadAs → ReadAs
at2 gs = at1 (rest gs)

abbrev at3 : List ReadAs → ReadAs
at3 gs = at2 (rest gs)

-- ---- words

abbrev is_on : Word → Bool
is_on words.On = true
is_on _ = false

abbrev is_equal : Word → Bool
is_equal words.Eq = true
is_equal _ = false

abbrev asked_in : Word → AskWord
asked_in words.Attr = asks.Attr
asked_in words.Parent = asks.Parent
asked_in words.Kids = asks.Kids
asked_in words.State = asks.State
asked_in words.Owner = asks.Owner
asked_in words.Controls = asks.Controls
asked_in words.Disabled = asks.Disabled
asked_in words.Candidate = asks.Candidate
asked_in words.Valid = asks.Valid
asked_in words.Message = asks.Message
asked_in words.Value = asks.Value
asked_in words.Saved = asks.Saved
asked_in words.Checked = asks.Checked
asked_in _ = asks.States

-- ---- lists of operands

abbrev entries_in : List ReadAs → List Entry
entries_in [] = []
entries_in (g ∷ []) = []
entries_in (g ∷ h ∷ gs) = record { name = chars_in g; value = chars_in h } ∷ entries_in gs

abbrev named_in : List ReadAs → Option (List ℕ)
named_in [] = None
named_in (g ∷ gs) = Some (chars_in g)

-- ---- forms, of the operands behind the first word

abbrev state_in : Word → List ReadAs → Leaf
state_in words.Add gs = leaves.Both (ops.StateAdd (node_in (at0 gs)) (chars_in (at2 gs)))
state_in words.Delete gs = leaves.Both (ops.StateDelete (node_in (at0 gs)) (chars_in (at2 gs)))
state_in _ gs = leaves.Both (ops.StateClear (node_in (at0 gs)))

abbrev disable_in : Word → List ReadAs → Leaf
disable_in words.Shadow gs = leaves.DisableShadow (class_in (at0 gs))
disable_in _ gs = leaves.DisableInternals (class_in (at0 gs))

abbrev user_in : Word → List ReadAs → Leaf
user_in words.Edit gs = leaves.UserEdit (node_in (at1 gs)) (value_in (at2 gs))
user_in words.Check gs = leaves.UserCheck (node_in (at1 gs)) (is_on (word_in (at2 gs)))
user_in words.Choose gs = leaves.UserChoose (node_in (at1 gs)) (is_on (word_in (at2 gs)))
user_in words.Reset gs = leaves.UserReset (node_in (at1 gs))
user_in words.Restore gs = leaves.UserRestore (node_in (at1 gs)) (value_in (at2 gs))
user_in words.Autofill gs = leaves.UserAutofill (node_in (at1 gs)) (value_in (at2 gs))
user_in _ gs = leaves.UserPress (node_in (at1 gs))

abbrev leaf_in : Flags → Word → List ReadAs → Leaf
leaf_in other words.Create gs = leaves.Both (ops.Create (variable_in (at0 gs)) (chars_in (at1 gs)) (maybe_chars (at2 gs)) (maybe_node (at3 gs)))
leaf_in other words.New gs = leaves.Both (ops.New (variable_in (at0 gs)) (class_in (at1 gs)))
leaf_in other words.Text gs = leaves.Both (ops.MakeText (variable_in (at0 gs)) (chars_in (at1 gs)) (maybe_node (at2 gs)))
leaf_in other words.Shadow gs = leaves.Both (ops.Shadow (variable_in (at0 gs)) (node_in (at1 gs)))
leaf_in other words.Append gs = leaves.Both (ops.Append (node_in (at0 gs)) (node_in (at1 gs)))
leaf_in other words.Before gs = leaves.Both (ops.Before (node_in (at0 gs)) (node_in (at1 gs)) (node_in (at2 gs)))
leaf_in other words.Remove gs = leaves.Both (ops.Remove (node_in (at0 gs)) (node_in (at1 gs)))
leaf_in other words.Detach gs = leaves.Both (ops.Detach (node_in (at0 gs)))
leaf_in other words.Clone gs = leaves.Both (ops.Clone (variable_in (at0 gs)) (node_in (at1 gs)) (marked_in (at2 gs)))
leaf_in other words.Adopt gs = leaves.Both (ops.Adopt (node_in (at0 gs)) (node_in (at1 gs)))
leaf_in other words.Let gs = leaves.Both (ops.Let (variable_in (at0 gs)) (node_in (at1 gs)))
leaf_in other words.Doc gs = leaves.Doc (variable_in (at0 gs))
leaf_in other words.SetAttr gs = leaves.Both (ops.SetAttr (node_in (at0 gs)) (chars_in (at1 gs)) (value_in (at2 gs)))
leaf_in other words.DelAttr gs = leaves.Both (ops.DelAttr (node_in (at0 gs)) (chars_in (at1 gs)))
leaf_in other words.Define gs = leaves.Both (ops.Define (chars_in (at0 gs)) (class_in (at1 gs)) (maybe_chars (at2 gs)))
leaf_in other words.Upgrade gs = leaves.Both (ops.Upgrade (node_in (at0 gs)))
leaf_in other words.Internals gs = leaves.Both (ops.Internals (node_in (at0 gs)))
leaf_in other words.FormValue gs = leaves.Both (ops.FormValue (node_in (at0 gs)) (value_in (at1 gs)) (maybe_value (at2 gs)))
leaf_in other words.FormNull gs = leaves.Both (ops.FormNull (node_in (at0 gs)))
leaf_in other words.Validity gs = leaves.Both (ops.Validity (node_in (at0 gs)) (flags_in other (at1 gs)) (value_in (at2 gs)))
leaf_in other words.Custom gs = leaves.Both (ops.Custom (node_in (at0 gs)) (value_in (at1 gs)))
leaf_in other words.Reset gs = leaves.Both (ops.Reset (node_in (at0 gs)))
leaf_in other words.Value gs = leaves.Both (ops.Value (node_in (at0 gs)) (value_in (at1 gs)))
leaf_in other words.Check gs = leaves.Both (ops.Check (node_in (at0 gs)) (is_on (word_in (at1 gs))))
leaf_in other words.Choose gs = leaves.Both (ops.Choose (node_in (at0 gs)) (is_on (word_in (at1 gs))))
leaf_in other words.Submit gs = leaves.Both (ops.Submit (node_in (at0 gs)))
leaf_in other words.Request gs = leaves.Both (ops.Request (node_in (at0 gs)) (maybe_node (at1 gs)))
leaf_in other words.Super gs = leaves.Super
leaf_in other words.Return gs = leaves.Return (maybe_node (at0 gs))
leaf_in other words.Throw gs = leaves.Throw (value_in (at0 gs))
leaf_in other words.Bump gs = leaves.Bump
leaf_in other words.Keep gs = leaves.Keep (value_in (at0 gs))
leaf_in other words.Class gs = leaves.Class (class_in (at0 gs))
leaf_in other words.Has gs = leaves.Has (class_in (at0 gs)) (callback_in (at1 gs))
leaf_in other words.Associate gs = leaves.Associate (class_in (at0 gs))
leaf_in other words.FormList gs = leaves.Both (ops.FormList (node_in (at0 gs)) (entries_in (rest gs)))
leaf_in other words.Ask gs = leaves.Both (ops.Ask (asked_in (word_in (at0 gs))) (node_in (at1 gs)) (named_in (rest (rest gs))))
leaf_in other words.Log gs = leaves.Log (map value_in gs)
leaf_in other words.Observe gs = leaves.Observe (class_in (at0 gs)) (map chars_in (rest gs))
leaf_in other words.State gs = state_in (word_in (at1 gs)) gs
leaf_in other words.Disable gs = disable_in (word_in (at1 gs)) gs
leaf_in other words.User gs = user_in (word_in (at0 gs)) gs
leaf_in other _ gs = leaves.Super

abbrev around_form : Wrap → Form → Form
around_form w f = form (w ∷ f.wraps) f.leaf

-- the form, of which there are so many pieces at most
abbrev form_in : Flags → ℕ → List ReadAs → Form
form_in other zero gs = form [] leaves.Super
form_in other (suc n) gs = elim (word_in (at0 gs)) [
  | words.On ↦ around_form (wraps.On (class_in (at1 gs)) (callback_in (at2 gs))) (form_in other n (rest (rest (rest (rest gs)))))
  | words.Try ↦ around_form wraps.Try (form_in other n (rest gs))
  | words.If ↦ around_form (wraps.If (is_equal (word_in (at1 gs))) (value_in (at2 gs)) (value_in (at3 gs)))
      (form_in other n (rest (rest (rest (rest (rest gs))))))
  | _ ↦ form [] (leaf_in other (word_in (at0 gs)) (rest gs))
]

-- ---- each is had back

values_back : (vals : List Val) → map value_in (map read_as.Value vals) ≡ vals
values_back [] = refl
values_back (v ∷ vals) = ap (λ (vs : List Val). v ∷ vs) (values_back vals)

names_back : (names : List (List ℕ)) → map chars_in (map read_as.Chars names) ≡ names
names_back [] = refl
names_back (n ∷ names) = ap (λ (ns : List (List ℕ)). n ∷ ns) (names_back names)

entries_back : (entries : List Entry) → entries_in (pairs entries) ≡ entries
entries_back [] = refl
entries_back (e ∷ entries) = ap (λ (es : List Entry). e ∷ es) (entries_back entries)

asked_back : (what : AskWord) → asked_in (ask_as what) ≡ what
asked_back asks.Attr = refl
asked_back asks.Parent = refl
asked_back asks.Kids = refl
asked_back asks.State = refl
asked_back asks.Owner = refl
asked_back asks.Controls = refl
asked_back asks.Disabled = refl
asked_back asks.Candidate = refl
asked_back asks.Valid = refl
asked_back asks.Message = refl
asked_back asks.Value = refl
asked_back asks.Saved = refl
asked_back asks.Checked = refl
asked_back asks.States = refl

named_back : (name : Option (List ℕ)) → named_in (named name) ≡ name
named_back None = refl
named_back (Some name) = refl

alone : (other : Flags) (n : ℕ) (leaf : Leaf) → form_in other (suc n) (leaf_as_read leaf) ≡ form [] leaf
alone other n (leaves.Both (ops.Create var local None None)) = refl
alone other n (leaves.Both (ops.Create var local None (Some document))) = refl
alone other n (leaves.Both (ops.Create var local (Some is_value) None)) = refl
alone other n (leaves.Both (ops.Create var local (Some is_value) (Some document))) = refl
alone other n (leaves.Both (ops.New var class)) = refl
alone other n (leaves.Both (ops.MakeText var chars None)) = refl
alone other n (leaves.Both (ops.MakeText var chars (Some document))) = refl
alone other n (leaves.Both (ops.Shadow var host)) = refl
alone other n (leaves.Both (ops.Append parent target)) = refl
alone other n (leaves.Both (ops.Before parent target before)) = refl
alone other n (leaves.Both (ops.Remove parent target)) = refl
alone other n (leaves.Both (ops.Detach target)) = refl
alone other n (leaves.Both (ops.Clone var target true)) = refl
alone other n (leaves.Both (ops.Clone var target false)) = refl
alone other n (leaves.Both (ops.Adopt document target)) = refl
alone other n (leaves.Both (ops.Let var target)) = refl
alone other n (leaves.Doc var) = refl
alone other n (leaves.Both (ops.SetAttr target name val)) = refl
alone other n (leaves.Both (ops.DelAttr target name)) = refl
alone other n (leaves.Both (ops.Define name class None)) = refl
alone other n (leaves.Both (ops.Define name class (Some base))) = refl
alone other n (leaves.Both (ops.Upgrade target)) = refl
alone other n (leaves.Both (ops.Internals target)) = refl
alone other n (leaves.Both (ops.FormValue target val None)) = refl
alone other n (leaves.Both (ops.FormValue target val (Some saved))) = refl
alone other n (leaves.Both (ops.FormNull target)) = refl
alone other n (leaves.Both (ops.Validity target flags message)) = refl
alone other n (leaves.Both (ops.Custom target message)) = refl
alone other n (leaves.Both (ops.Reset form)) = refl
alone other n (leaves.Both (ops.Value target val)) = refl
alone other n (leaves.Both (ops.Check target true)) = refl
alone other n (leaves.Both (ops.Check target false)) = refl
alone other n (leaves.Both (ops.Choose target true)) = refl
alone other n (leaves.Both (ops.Choose target false)) = refl
alone other n (leaves.Both (ops.Submit form)) = refl
alone other n (leaves.Both (ops.Request form None)) = refl
alone other n (leaves.Both (ops.Request form (Some submitter))) = refl
alone other n leaves.Super = refl
alone other n (leaves.Return None) = refl
alone other n (leaves.Return (Some target)) = refl
alone other n (leaves.Throw val) = refl
alone other n leaves.Bump = refl
alone other n (leaves.Keep val) = refl
alone other n (leaves.Class name) = refl
alone other n (leaves.Has class call) = refl
alone other n (leaves.Associate class) = refl
alone other n (leaves.UserEdit target val) = refl
alone other n (leaves.UserCheck target true) = refl
alone other n (leaves.UserCheck target false) = refl
alone other n (leaves.UserChoose target true) = refl
alone other n (leaves.UserChoose target false) = refl
alone other n (leaves.UserReset form) = refl
alone other n (leaves.UserRestore target val) = refl
alone other n (leaves.UserAutofill target val) = refl
alone other n (leaves.UserPress target) = refl
alone other n (leaves.Both (ops.StateAdd target word)) = refl
alone other n (leaves.Both (ops.StateDelete target word)) = refl
alone other n (leaves.Both (ops.StateClear target)) = refl
alone other n (leaves.Both (ops.FormList target entries)) = ap (λ (x : List Entry). form [] (leaves.Both (ops.FormList target x))) (entries_back entries)
alone other n (leaves.Both (ops.Ask what target name)) =
    ap (λ (x : AskWord). form [] (leaves.Both (ops.Ask x target (named_in (named name))))) (asked_back what)
    ∙ ap (λ (x : Option (List ℕ)). form [] (leaves.Both (ops.Ask what target x))) (named_back name)
alone other n (leaves.Log vals) = ap (λ (x : List Val). form [] (leaves.Log x)) (values_back vals)
alone other n (leaves.Observe class names) = ap (λ (x : List (List ℕ)). form [] (leaves.Observe class x)) (names_back names)
alone other n (leaves.DisableShadow class) = refl
alone other n (leaves.DisableInternals class) = refl

fewer : (w : Wrap) (ws : List Wrap) (n : ℕ) → length (w ∷ ws) < suc n → length ws < n
fewer w ws n small = omega (arith, small)

back : (other : Flags) (n : ℕ) (ws : List Wrap) (leaf : Leaf) → length ws < n → form_in other n (wraps_as_read ws (leaf_as_read leaf)) ≡ form ws leaf
back other zero ws leaf small = absurd (omega (arith, small))
back other (suc n) [] leaf small = alone other n leaf
back other (suc n) (wraps.On class call ∷ ws) leaf small =
    ap (around_form (wraps.On class call)) (back other n ws leaf (fewer (wraps.On class call) ws n small))
back other (suc n) (wraps.Try ∷ ws) leaf small = ap (around_form wraps.Try) (back other n ws leaf (fewer wraps.Try ws n small))
back other (suc n) (wraps.If true left right ∷ ws) leaf small =
    ap (around_form (wraps.If true left right)) (back other n ws leaf (fewer (wraps.If true left right) ws n small))
back other (suc n) (wraps.If false left right ∷ ws) leaf small =
    ap (around_form (wraps.If false left right)) (back other n ws leaf (fewer (wraps.If false left right) ws n small))

-- any flags
abbrev some_flags : Flags
some_flags = record { 0 = [] }

pub told : OperandsTellForms
told f g same =
    let n : ℕ = suc (length f.wraps + length g.wraps) in
    let first : length f.wraps < n = omega arith in
    let second : length g.wraps < n = omega arith in
    sym (back some_flags n f.wraps f.leaf first) ∙ (ap (form_in some_flags n) same ∙ back some_flags n g.wraps g.leaf second)
