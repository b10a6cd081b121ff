-- The page: what the primitives read and change.
use Rattle.std.specs.Prelude.{ℕ, zero, suc, ◌-◌, Bool, false, true, List, [], ◌∷◌, Option, Some, None, slice_get, slice_set}
use Rattle.std.specs.Option.{option_and_then}
use Rattle.ce_base.specs.declared.custom_state.CustomState.{CustomState}
use Rattle.ce_base.specs.declared.custom_state.CustomState.TheVariants.{Uncustomized, Custom}
use Rattle.node_trees.specs.declared.kind.NodeKind.TheVariants.{Document}
use Rattle.node_trees.specs.Facts.{blank}
use Rattle.node_trees.specs.Trees.{Trees, single}
use Rattle.reaction_queue.specs.Queues.{Queues, no_queues}
use Rattle.ce_registry.specs.declared.definition.Definition.{Definition}
use Rattle.ce_registry.specs.ClassFacts.{no_facts}
use Rattle.form_controls.specs.declared.control.Control.{Control}
use Rattle.form_controls.specs.declared.internals.Internals.{Internals}
use Rattle.ce_algorithms.specs.declared.note.Note.{Note}
use Rattle.ce_algorithms.specs.Steps.{Step, Goes, Spent}

-- what a node is as a custom element (DOM Standard, section "Interface Element"); a definition is named by its number
pub record Element : Type 0 where
  pub state : CustomState
  pub definition : Option ℕ

pub record Page : Type 0 where
  pub forest : Trees  -- all nodes; node 1 is the page's document
  pub elements : List Element  -- a row for each node, that of node 1 first
  pub definitions : List Definition  -- the custom element registry, in the order of defining
  pub stacks : List (List (Option ℕ))  -- the construction stacks of the definitions
  pub queues : Queues
  pub notes : List Note  -- the enqueues that were made and not told yet, the oldest first
  pub controls : List Control  -- what the control of each node keeps, that of node 1 first; past the end nothing was set
  pub internals : List (Option Internals)  -- what ElementInternals keeps of each node, that of node 1 first; past the end none are attached
  pub settled : Bool  -- what is kept of form owners and disabled states stands for the forest; no step changes this

-- a page, and the fuel that is left
pub record Work : Type 0 where
  pub page : Page
  pub fuel : ℕ

-- one fuel, or the end of the session
abbrev pub spend_from : ℕ → Step Work (Unit {0})
spend_from zero w = Spent w
spend_from (suc n) w = Goes tt (record w { fuel = n })

abbrev pub spend : Step Work (Unit {0})
spend w = spend_from w.fuel w

abbrev pub read_page : {A : Type 0} → (Page → A) → Step Work A
read_page f w = Goes (f w.page) w

abbrev pub change_page : (Page → Page) → Step Work (Unit {0})
change_page f w = Goes tt (record w { page = f w.page })

abbrev pub with_forest : (Trees → Trees) → Page → Page
with_forest f p = record p { forest = f p.forest }

abbrev pub with_queues : (Queues → Queues) → Page → Page
with_queues f p = record p { queues = f p.queues }

abbrev pub with_controls : (List Control → List Control) → Page → Page
with_controls f p = record p { controls = f p.controls }

abbrev pub with_internals : (List (Option Internals) → List (Option Internals)) → Page → Page
with_internals f p = record p { internals = f p.internals }

-- a node that is no custom element
abbrev pub uncustomized : Element
uncustomized = record { state = Uncustomized; definition = None }

-- a page with its document alone
abbrev pub blank_page : Page
blank_page = record {
  forest = single 1 (blank Document 1);
  elements = uncustomized ∷ [];
  definitions = [];
  stacks = [];
  queues = no_queues;
  notes = [];
  controls = [];
  internals = [];
  settled = true;
}

-- reads of one element

abbrev pub or_uncustomized : Option Element → Element
or_uncustomized None = uncustomized
or_uncustomized (Some e) = e

abbrev pub element_of : Page → ℕ → Element
element_of p n = or_uncustomized (slice_get p.elements (n - 1))

-- the custom element state
abbrev pub state_of : Page → ℕ → CustomState
state_of p n = (element_of p n).state

-- the custom element definition
abbrev pub definition_of : Page → ℕ → Option Definition
definition_of p n = option_and_then (slice_get p.definitions) (element_of p n).definition

-- what stands for a definition that is not there
abbrev pub no_definition : Definition
no_definition = record { name = []; local = []; class = 0; facts = no_facts }

abbrev pub or_no_definition : Option Definition → Definition
or_no_definition None = no_definition
or_no_definition (Some d) = d

-- the definition with this number
abbrev pub definition_at : Page → ℕ → Definition
definition_at p d = or_no_definition (slice_get p.definitions d)

abbrev pub is_custom_state : CustomState → Bool
is_custom_state Custom = true
is_custom_state state = false

-- the element is custom: its state is "custom" (DOM Standard, section "Interface Element")
abbrev pub is_custom : Page → ℕ → Bool
is_custom p n = is_custom_state (state_of p n)

-- changes of one element

abbrev pub with_element : ℕ → Element → Page → Page
with_element n e p = record p { elements = slice_set p.elements (n - 1) e }

abbrev pub with_state : ℕ → CustomState → Page → Page
with_state n state p = with_element n (record (element_of p n) { state = state }) p

-- the definition set or cleared: this tells nobody
abbrev pub with_definition : ℕ → Option ℕ → Page → Page
with_definition n d p = with_element n (record (element_of p n) { definition = d }) p
