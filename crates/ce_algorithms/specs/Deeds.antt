-- What operations come to: deeds, once their operands were read and fit.
use Rattle.std.specs.Prelude.{ℕ, Bool, true, false, not, List, Option, Some, None, option_map, Result, Ok, Err}
use Rattle.ce_base.specs.declared.fault.Fault.{Fault}
use Rattle.ce_base.specs.declared.fault.Fault.TheVariants.{TypeError}
use Rattle.reaction_queue.specs.declared.reaction.Mode.TheVariants.{Restore, Autocomplete}
use Rattle.rule_tokens.specs.declared.operand.Val.{Val}
use Rattle.form_controls.specs.declared.value.Value.{Value}
use Rattle.form_controls.specs.declared.value.Value.TheVariants as values
use Rattle.form_controls.specs.Internals.{state_or}
use Rattle.rule_lines.specs.declared.line.Cmd.{Cmd}
use Rattle.rule_lines.specs.declared.line.Cmd.TheVariants as commands
use Rattle.rule_lines.specs.declared.op.Op.{Op}
use Rattle.rule_lines.specs.declared.op.Op.TheVariants as ops
use Rattle.ce_algorithms.specs.declared.deed.Deed.{Deed}
use Rattle.ce_algorithms.specs.declared.deed.Deed.TheVariants as deeds
use Rattle.ce_algorithms.specs.declared.deed.ControlDeed.TheVariants as control_deeds
use Rattle.ce_algorithms.specs.declared.deed.FormDeed.{FormDeed}
use Rattle.ce_algorithms.specs.declared.deed.FormDeed.TheVariants as form_deeds
use Rattle.ce_algorithms.specs.declared.deed.InternalsDeed.TheVariants as internals_deeds
use Rattle.ce_algorithms.specs.declared.deed.SubmitDeed.TheVariants as submit_deeds
use Rattle.ce_algorithms.specs.declared.deed.Deed.TheVariants.{OnPage, OnControls, OnInternals, OnForms, Submits}
use Rattle.ce_algorithms.specs.declared.deed.PageDeed.{PageDeed}
use Rattle.ce_algorithms.specs.declared.deed.PageDeed.TheVariants as page_deeds
use Rattle.ce_algorithms.specs.declared.fit.Fit.TheVariants.{AnOption, Button, CustomFormAssociated, ElementOrText, Form, ListedNative, TextControl, Tickable}
use Rattle.ce_algorithms.specs.State.{View}
use Rattle.ce_algorithms.specs.Operands.{◌>>=◌, node, node_or_none, node_that, element, document, document_or_page, class}
use Rattle.ce_algorithms.specs.Values.{fixed_text}
use Rattle.ce_algorithms.specs.Questions.{question}

-- a value is one text
abbrev pub text_value : Val → Value
text_value value = values.One (fixed_text value)

-- the operands of an operation, from the left, and what it comes to; nothing is done yet
abbrev pub resolve : View → Op → Result Deed Fault
resolve v (ops.Create var local is within) = do
  d ← document_or_page v within
  Ok (deeds.Create local is d)
resolve v (ops.New var name) = do
  k ← class v.classes name
  Ok (deeds.New k)
resolve v (ops.MakeText var chars within) = do
  d ← document_or_page v within
  Ok (OnPage (page_deeds.MakeText chars d))
resolve v (ops.Shadow var host) = do
  n ← element v host
  Ok (OnPage (page_deeds.Shadow n))
resolve v (ops.Append parent child) = do
  p ← node v parent
  n ← node v child
  Ok (OnPage (page_deeds.Insert p n None))
resolve v (ops.Before parent child before) = do
  p ← node v parent
  n ← node v child
  b ← node v before
  Ok (OnPage (page_deeds.Insert p n (Some b)))
resolve v (ops.Remove parent child) = do
  p ← node v parent
  n ← node v child
  Ok (OnPage (page_deeds.Remove p n))
resolve v (ops.Detach child) = do
  n ← node_that ElementOrText v child
  Ok (OnPage (page_deeds.Detach n))
resolve v (ops.SetAttr operand name value) = do
  n ← element v operand
  Ok (OnPage (page_deeds.SetAttr n name (fixed_text value)))
resolve v (ops.DelAttr operand name) = do
  n ← element v operand
  Ok (OnPage (page_deeds.DelAttr n name))
resolve v (ops.Clone var operand deep) = do
  n ← node v operand
  Ok (OnPage (page_deeds.Clone n deep))
resolve v (ops.Adopt within operand) = do
  d ← document v within
  n ← node v operand
  Ok (OnPage (page_deeds.Adopt d n))
resolve v (ops.Define name class_name base) = do
  k ← class v.classes class_name
  Ok (deeds.Define name k base)
resolve v (ops.Upgrade operand) = do
  n ← node v operand
  Ok (OnPage (page_deeds.Upgrade n))
resolve v (ops.Ask word operand name) = do
  n ← node_that (question word name).asked_of v operand
  Ok (deeds.Ask word n name)
resolve v (ops.Let var operand) = do
  n ← node v operand
  Ok (deeds.Let var n)
resolve v (ops.Value operand text) = do
  n ← node_that TextControl v operand
  Ok (OnControls (control_deeds.Edit n (fixed_text text) false))
resolve v (ops.Check operand on) = do
  n ← node_that Tickable v operand
  Ok (OnControls (control_deeds.Tick n on false))
resolve v (ops.Choose operand on) = do
  n ← node_that AnOption v operand
  Ok (OnControls (control_deeds.Choose n on false))
resolve v (ops.Custom operand message) = do
  n ← node_that ListedNative v operand
  Ok (OnControls (control_deeds.SetMessage n (fixed_text message)))
resolve v (ops.Internals operand) = do
  n ← element v operand
  Ok (OnInternals (internals_deeds.Attach n))
resolve v (ops.FormValue operand value saved) = do
  n ← element v operand
  Ok (OnInternals (internals_deeds.SetValue n (text_value value) (state_or (text_value value) (option_map text_value saved))))
resolve v (ops.FormList operand entries) = do
  n ← element v operand
  Ok (OnInternals (internals_deeds.SetValue n (values.Many entries) (state_or (values.Many entries) None)))
resolve v (ops.FormNull operand) = do
  n ← element v operand
  Ok (OnInternals (internals_deeds.SetValue n values.Nothing values.Nothing))
resolve v (ops.Validity operand flags message) = do
  n ← element v operand
  Ok (OnInternals (internals_deeds.SetValidity n flags (fixed_text message)))
resolve v (ops.StateAdd operand word) = do
  n ← element v operand
  Ok (OnInternals (internals_deeds.AddState n word))
resolve v (ops.StateDelete operand word) = do
  n ← element v operand
  Ok (OnInternals (internals_deeds.DeleteState n word))
resolve v (ops.StateClear operand) = do
  n ← element v operand
  Ok (OnInternals (internals_deeds.ClearStates n))
resolve v (ops.Reset operand) = do
  n ← node_that Form v operand
  Ok (OnForms (form_deeds.Reset n false))
resolve v (ops.Submit operand) = do
  n ← node_that Form v operand
  Ok (Submits (submit_deeds.Submit n))
resolve v (ops.Request operand submitter) = do
  n ← node_that Form v operand
  b ← node_or_none v submitter
  Ok (Submits (submit_deeds.Request n b))

-- the same of what the user does, where nothing is `this`; what only a script does is refused
abbrev pub resolve_user : View → Cmd → Result Deed Fault
resolve_user v (commands.UserEdit operand text) = do
  n ← node_that TextControl v operand
  Ok (OnControls (control_deeds.Edit n text true))
resolve_user v (commands.UserCheck operand on) = do
  n ← node_that Tickable v operand
  Ok (OnControls (control_deeds.Tick n on true))
resolve_user v (commands.UserChoose operand on) = do
  n ← node_that AnOption v operand
  Ok (OnControls (control_deeds.Choose n on true))
resolve_user v (commands.UserReset operand) = do
  n ← node_that Form v operand
  Ok (OnForms (form_deeds.Reset n true))
resolve_user v (commands.UserRestore operand text) = do
  n ← node_that CustomFormAssociated v operand
  Ok (OnForms (form_deeds.Restore n text Restore))
resolve_user v (commands.UserAutofill operand text) = do
  n ← node_that CustomFormAssociated v operand
  Ok (OnForms (form_deeds.Restore n text Autocomplete))
resolve_user v (commands.UserPress operand) = do
  n ← node_that Button v operand
  Ok (Submits (submit_deeds.Press n))
resolve_user v c = Err TypeError

-- which deeds push an element queue ([CEReactions]; HTML Standard, section "Custom element reactions")

abbrev pub is_reacting_on_page : PageDeed → Bool
is_reacting_on_page (page_deeds.MakeText chars document) = false
is_reacting_on_page (page_deeds.Shadow host) = false
is_reacting_on_page (page_deeds.Insert parent n before) = true
is_reacting_on_page (page_deeds.Remove parent n) = true
is_reacting_on_page (page_deeds.Detach n) = true
is_reacting_on_page (page_deeds.SetAttr n name value) = true
is_reacting_on_page (page_deeds.DelAttr n name) = true
is_reacting_on_page (page_deeds.Clone n deep) = true
is_reacting_on_page (page_deeds.Adopt document n) = true
is_reacting_on_page (page_deeds.Upgrade n) = true

-- a reset by a script; what the user does, and a state that comes back, push none
abbrev pub is_reacting_on_forms : FormDeed → Bool
is_reacting_on_forms (form_deeds.Reset form by_user) = not by_user
is_reacting_on_forms (form_deeds.Restore n text mode) = false

abbrev pub is_reacting : Deed → Bool
is_reacting (deeds.Create local is document) = true
is_reacting (deeds.New class) = false
is_reacting (deeds.Define name class base) = true
is_reacting (OnPage what) = is_reacting_on_page what
is_reacting (OnControls what) = false
is_reacting (OnInternals what) = false
is_reacting (OnForms what) = is_reacting_on_forms what
is_reacting (Submits what) = false
is_reacting (deeds.Ask word n name) = false
is_reacting (deeds.Let var n) = false

-- the steps of these deeds construct no class
abbrev pub IsStill : Deed → Type 0
IsStill (deeds.Create local is document) = ⊥
IsStill (deeds.New class) = ⊥
IsStill deed = Unit {0}

-- the variable of an operation that gives a node; the others give none
abbrev pub variable : Op → Option (List ℕ)
variable (ops.Create var local is within) = Some var
variable (ops.New var name) = Some var
variable (ops.MakeText var chars within) = Some var
variable (ops.Shadow var host) = Some var
variable (ops.Clone var operand deep) = Some var
variable op = None
