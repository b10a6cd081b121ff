-- The operations: the operands; a queue around the steps, where the operation reacts; the variable, when it has returned.
use Rattle.std.specs.Prelude.{ℕ, Bool, true, false, not, ◌||◌, ◌&&◌, if◌then◌else◌, List, Option, Some, None, is_some}
use Rattle.std.specs.Str.{str_to_ascii_lowercase}
use Rattle.ce_base.specs.declared.fault.Fault.TheVariants.{NotSupportedError, HierarchyRequestError, NotFoundError, InvalidCharacterError}
use Rattle.element_names.specs.Names.{custom_name, local_name, attr_name}
use Rattle.element_names.specs.Hosts.{shadow_host}
use Rattle.node_trees.specs.Facts.{is_document, is_shadow_root}
use Rattle.node_trees.specs.Trees.{is_number}
use Rattle.node_trees.specs.Candidates.{elements}
use Rattle.node_trees.specs.Spots.{facts_at, kind_at, parent_at, shadow_at}
use Rattle.rule_lines.specs.declared.line.Cmd.{Cmd}
use Rattle.rule_lines.specs.declared.op.Op.{Op}
use Rattle.ce_algorithms.specs.declared.deed.Deed.{Deed}
use Rattle.ce_algorithms.specs.declared.deed.Deed.TheVariants as deeds
use Rattle.ce_algorithms.specs.declared.deed.Deed.TheVariants.{OnPage, OnControls, OnInternals, OnForms, Submits}
use Rattle.ce_algorithms.specs.declared.deed.FormDeed.{FormDeed}
use Rattle.ce_algorithms.specs.declared.deed.FormDeed.TheVariants as form_deeds
use Rattle.ce_algorithms.specs.declared.deed.InternalsDeed.{InternalsDeed}
use Rattle.ce_algorithms.specs.declared.deed.InternalsDeed.TheVariants as internals_deeds
use Rattle.ce_algorithms.specs.declared.deed.PageDeed.{PageDeed}
use Rattle.ce_algorithms.specs.declared.deed.PageDeed.TheVariants as page_deeds
use Rattle.ce_algorithms.specs.declared.given.Given.{Given}
use Rattle.ce_algorithms.specs.declared.given.Given.TheVariants.{Nothing, Node, Answers}
use Rattle.ce_algorithms.specs.Steps.{Step, ◌>>=◌, ◌>>◌, give, done, read, throw_where, throw_if, where_is, for_each}
use Rattle.ce_algorithms.specs.Page.{Page, Work, definition_at}
use Rattle.ce_algorithms.specs.Page as page
use Rattle.ce_algorithms.specs.Making.{make_text, make_shadow_root}
use Rattle.ce_algorithms.specs.Enqueue.{lookup_for, try_upgrade}
use Rattle.ce_algorithms.specs.Mutation.{pre_insert, remove, adopt}
use Rattle.ce_algorithms.specs.Attributes.{set_attribute, remove_attribute}
use Rattle.ce_algorithms.specs.Define.{define_name}
use Rattle.ce_algorithms.specs.Clone.{clone}
use Rattle.ce_algorithms.specs.Controls.{control_steps}
use Rattle.ce_algorithms.specs.Internals.{add_state, attach_internals, clear_states, delete_state, set_form_value, set_validity}
use Rattle.ce_algorithms.specs.Reset.{reset_form, restore}
use Rattle.ce_algorithms.specs.Submission.{submit_steps}
use Rattle.ce_algorithms.specs.State.{State, look, on_page, set_variable, class_of, change_class}
use Rattle.ce_algorithms.specs.Calls.{Again}
use Rattle.ce_algorithms.specs.Questions.{question}
use Rattle.ce_algorithms.specs.Deeds.{resolve, resolve_user, is_reacting, variable}
use Rattle.ce_algorithms.specs.Construct.{construct}
use Rattle.ce_algorithms.specs.Drain.{reacting}
use Rattle.ce_algorithms.specs.Create.{create}

-- the steps of operations

-- the name is tested, and then lowercased (DOM Standard, section "Interface Document", `createElement`)
abbrev pub create_named : Again → List ℕ → Option (List ℕ) → ℕ → Step State ℕ
create_named again name is document = do
  throw_if (not (local_name name)) InvalidCharacterError
  create again (str_to_ascii_lowercase name) is document

-- the definition disables shadow; none does not
abbrev pub disables_shadow : Page → Option ℕ → Bool
disables_shadow p None = false
disables_shadow p (Some d) = (definition_at p d).facts.no_shadow

-- the look-up for a custom element's name or an `is` value gives a definition that disables shadow
abbrev pub is_shadow_disabled : Page → ℕ → Bool
is_shadow_disabled p n = (custom_name (facts_at p.forest n).local || is_some (facts_at p.forest n).is_value) && disables_shadow p (lookup_for p n)

-- (DOM Standard, section "Interface Element", "attach a shadow root")
abbrev pub attach_shadow : ℕ → Step Work ℕ
attach_shadow n = do
  throw_where (λ (w : Work). not (shadow_host (facts_at w.page.forest n).local)) NotSupportedError
  throw_where (λ (w : Work). is_shadow_disabled w.page n) NotSupportedError
  throw_where (λ (w : Work). is_some (shadow_at w.page.forest n)) NotSupportedError
  make_shadow_root n

-- (DOM Standard, section "Mutation algorithms", "pre-remove")
abbrev pub remove_child : ℕ → ℕ → Step Work (Unit {0})
remove_child parent n = do
  throw_where (λ (w : Work). not (is_number (parent_at w.page.forest n) parent)) NotFoundError
  remove n

-- (DOM Standard, section "Mixin ChildNode", `remove`)
abbrev pub detach : ℕ → Step Work (Unit {0})
detach n = where_is (λ w. is_some (parent_at w.page.forest n)) (remove n)

-- the name is tested, and then lowercased (DOM Standard, section "Interface Element", `setAttribute`)
abbrev pub set_named : ℕ → List ℕ → List ℕ → Step Work (Unit {0})
set_named n name value = do
  throw_if (not (attr_name name)) InvalidCharacterError
  set_attribute n (str_to_ascii_lowercase name) value

-- (DOM Standard, section "Interface Document", `adoptNode`)
abbrev pub adopt_node : ℕ → ℕ → Step Work (Unit {0})
adopt_node document n = do
  throw_where (λ (w : Work). is_document (kind_at w.page.forest n)) NotSupportedError
  throw_where (λ (w : Work). is_shadow_root (kind_at w.page.forest n)) HierarchyRequestError
  adopt document n

-- a custom element is defined: its definition is added, and the class is frozen (HTML Standard, section "The CustomElementRegistry interface", `define`)
abbrev pub define_element : List ℕ → ℕ → Option (List ℕ) → Step State (Unit {0})
define_element name k base = do
  c ← read (λ s. class_of s k)
  on_page (define_name name k c.facts base)
  change_class k (λ c. record c { frozen = true })

-- each element of the shadow-including inclusive descendants (HTML Standard, section "The CustomElementRegistry interface", `upgrade`)
abbrev pub upgrade_all : ℕ → Step Work (Unit {0})
upgrade_all n = do
  walk ← page.read_page (λ p. elements p.forest n)
  for_each walk try_upgrade

-- what is done, and what that gives

abbrev pub gives_nothing : {S : Type 0} → Step S (Unit {0}) → Step S Given
gives_nothing step = do
  step
  give Nothing

abbrev pub gives_node : {S : Type 0} → Step S ℕ → Step S Given
gives_node step = do
  n ← step
  give (Node n)

abbrev pub page_steps : PageDeed → Step Work Given
page_steps (page_deeds.MakeText chars document) = gives_node (make_text chars document)
page_steps (page_deeds.Shadow host) = gives_node (attach_shadow host)
page_steps (page_deeds.Insert parent n before) = gives_nothing (pre_insert parent n before)
page_steps (page_deeds.Remove parent n) = gives_nothing (remove_child parent n)
page_steps (page_deeds.Detach n) = gives_nothing (detach n)
page_steps (page_deeds.SetAttr n name value) = gives_nothing (set_named n name value)
page_steps (page_deeds.DelAttr n name) = gives_nothing (remove_attribute n (str_to_ascii_lowercase name))
page_steps (page_deeds.Clone n deep) = gives_node (clone deep n)
page_steps (page_deeds.Adopt document n) = gives_nothing (adopt_node document n)
page_steps (page_deeds.Upgrade n) = gives_nothing (upgrade_all n)

abbrev pub internals_steps : InternalsDeed → Step Work Given
internals_steps (internals_deeds.Attach n) = gives_nothing (attach_internals n)
internals_steps (internals_deeds.SetValue n value saved) = gives_nothing (set_form_value n value saved)
internals_steps (internals_deeds.SetValidity n flags message) = gives_nothing (set_validity n flags message)
internals_steps (internals_deeds.AddState n word) = gives_nothing (add_state n word)
internals_steps (internals_deeds.DeleteState n word) = gives_nothing (delete_state n word)
internals_steps (internals_deeds.ClearStates n) = gives_nothing (clear_states n)

abbrev pub form_steps : FormDeed → Step Work Given
form_steps (form_deeds.Reset form by_user) = gives_nothing (reset_form form)
form_steps (form_deeds.Restore n text mode) = restore n text mode

abbrev pub steps : Again → Deed → Step State Given
steps again (deeds.Create local is document) = gives_node (create_named again local is document)
steps again (deeds.New class) = gives_node (construct again class)
steps again (deeds.Define name class base) = gives_nothing (define_element name class base)
steps again (OnPage what) = on_page (page_steps what)
steps again (OnControls what) = on_page (control_steps what)
steps again (OnInternals what) = on_page (internals_steps what)
steps again (OnForms what) = on_page (form_steps what)
steps again (Submits what) = submit_steps what
steps again (deeds.Ask word n name) = read (λ (s : State). Answers ((question word name).answer s.page n))
steps again (deeds.Let var n) = gives_nothing (set_variable var n)

-- a deed with its queue, where it reacts
abbrev pub perform_deed : Again → Deed → Step State Given
perform_deed again deed = if is_reacting deed then reacting again (steps again deed) else steps again deed

-- the variable is set to the node that was given
abbrev pub keep : Option (List ℕ) → Given → Step State (Unit {0})
keep (Some var) (Node n) = set_variable var n
keep var given = done

abbrev pub named : Option (List ℕ) → Given → Step State Given
named var given = do
  keep var given
  give given

abbrev pub kept : Option (List ℕ) → Step State Given → Step State Given
kept var step = do
  given ← step
  named var given

-- one operation, where `this` is that node or none
abbrev pub operate : Again → Option ℕ → Op → Step State Given
operate again this op = do
  deed ← look this (λ v. resolve v op)
  kept (variable op) (perform_deed again deed)

-- what the user does; it sets no variable
abbrev pub act_as_user : Again → Cmd → Step State Given
act_as_user again c = do
  deed ← look None (λ v. resolve_user v c)
  perform_deed again deed
