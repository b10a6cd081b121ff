-- The state of a session: where its page stands, the page and its fuel, the classes with their memories, the variables, the log.
use Rattle.std.specs.Prelude.{ℕ, zero, suc, Bool, false, List, [], ◌∷◌, ◌++◌, map, Option, Some, None, Result, slice_get, slice_set, bytes_eq, option_map}
use Rattle.std.specs.List.{find, position}
use Rattle.ce_base.specs.declared.fault.Fault.{Fault}
use Rattle.rule_tokens.specs.declared.callback.CallName.{CallName}
use Rattle.rule_lines.specs.Acts.{Act}
use Rattle.form_submission.specs.declared.site.Site.{Site}
use Rattle.ce_registry.specs.declared.class_facts.ClassFacts.{ClassFacts}
use Rattle.ce_registry.specs.ClassFacts.{no_facts}
use Rattle.ce_events.specs.declared.event.Event.{Event}
use Rattle.ce_events.specs.declared.event.Event.TheVariants.{Enqueued, FuelLine}
use Rattle.ce_algorithms.specs.declared.note.Note.{Note}
use Rattle.ce_algorithms.specs.Steps.{Step, Outcome, Goes, Throws, Spent, change, done, settle}
use Rattle.ce_algorithms.specs.Page.{Page, Work}

-- what a class remembers; all its instances and callbacks share it
pub record Memory : Type 0 where
  pub count : ℕ  -- the counter
  pub kept : List ℕ  -- the kept text

abbrev pub blank_memory : Memory
blank_memory = record { count = 0; kept = [] }

pub record Class : Type 0 where
  pub name : List ℕ
  pub facts : ClassFacts
  pub bodies : List (CallName × Act)  -- in the order of their lines
  pub frozen : Bool  -- a definition has it
  pub memory : Memory

pub record State : Type 0 where
  pub site : Site  -- where the page stands; no step changes it
  pub page : Page
  pub fuel : ℕ
  pub classes : List Class
  pub variables : List (List ℕ × ℕ)
  pub log : List Event

abbrev pub logged : Event → State → State
logged e s = record s { log = s.log ++ e ∷ [] }

-- the log was written out
abbrev pub forgotten : State → State
forgotten s = record s { log = [] }

abbrev pub log : Event → Step State (Unit {0})
log e = change (logged e)

-- the line, where there is one
abbrev pub log_any : Option Event → Step State (Unit {0})
log_any None = done
log_any (Some e) = log e

-- the session ends, and the line `fuel` is its last
abbrev pub ended_by_fuel : {A : Type 0} → State → Outcome State A
ended_by_fuel s = Spent (logged FuelLine s)

-- one fuel, or the end of the session
abbrev pub spend_from : ℕ → Step State (Unit {0})
spend_from zero s = ended_by_fuel s
spend_from (suc n) s = Goes tt (record s { fuel = n })

abbrev pub spend : Step State (Unit {0})
spend s = spend_from s.fuel s

abbrev pub read_page : {A : Type 0} → (Page → A) → Step State A
read_page f s = Goes (f s.page) s

abbrev pub change_page : (Page → Page) → Step State (Unit {0})
change_page f s = Goes tt (record s { page = f s.page })

abbrev pub event_of : Note → Event
event_of n = Enqueued n.number n.node n.what n.queue

-- a page at work comes back: its notes go into the log
abbrev pub with_work : Work → State → State
with_work w s = record s { page = record (w.page) { notes = [] }; fuel = w.fuel; log = s.log ++ map event_of w.page.notes }

abbrev pub with_outcome : {A : Type 0} → Outcome Work A → State → Outcome State A
with_outcome (Goes a w) s = Goes a (with_work w s)
with_outcome (Throws f w) s = Throws f (with_work w s)
with_outcome (Spent w) s = ended_by_fuel (with_work w s)

abbrev pub work_of : State → Work
work_of s = record { page = s.page; fuel = s.fuel }

-- a primitive on the page, as a step of the session
abbrev pub on_page : {A : Type 0} → Step Work A → Step State A
on_page step s = with_outcome (step (work_of s)) s

-- variables

-- what a variable holds
abbrev pub value_of : List (List ℕ × ℕ) → List ℕ → Option ℕ
value_of variables v = option_map (λ (b : List ℕ × ℕ). b.1) (find (λ (b : List ℕ × ℕ). bytes_eq b.0 v) variables)

abbrev pub put_variable : Option ℕ → List ℕ → ℕ → List (List ℕ × ℕ) → List (List ℕ × ℕ)
put_variable None v n variables = variables ++ (v, n) ∷ []
put_variable (Some i) v n variables = slice_set variables i (v, n)

abbrev pub with_variable : List ℕ → ℕ → List (List ℕ × ℕ) → List (List ℕ × ℕ)
with_variable v n variables = put_variable (position (λ (b : List ℕ × ℕ). bytes_eq b.0 v) variables) v n variables

abbrev pub set_variable : List ℕ → ℕ → Step State (Unit {0})
set_variable v n = change (λ s. record s { variables = with_variable v n s.variables })

-- classes, by their numbers

-- the class with this name
abbrev pub class_named : List Class → List ℕ → Option ℕ
class_named classes name = position (λ (k : Class). bytes_eq k.name name) classes

-- a class without callbacks, whose memory is blank
abbrev pub new_class : List ℕ → Class
new_class name = record { name = name; facts = no_facts; bodies = []; frozen = false; memory = blank_memory }

abbrev pub or_new_class : Option Class → Class
or_new_class None = new_class []
or_new_class (Some k) = k

abbrev pub class_of : State → ℕ → Class
class_of s k = or_new_class (slice_get s.classes k)

abbrev pub change_class : ℕ → (Class → Class) → Step State (Unit {0})
change_class k f = change (λ s. record s { classes = slice_set s.classes k (f (class_of s k)) })

-- what a class remembers is changed
abbrev pub change_memory : ℕ → (Memory → Memory) → Step State (Unit {0})
change_memory k f = change_class k (λ c. record c { memory = f c.memory })

-- what operands are read from: the page, the classes, the variables, and which node is `this`, or none
pub record View : Type 0 where
  pub page : Page
  pub classes : List Class
  pub variables : List (List ℕ × ℕ)
  pub this : Option ℕ

abbrev pub view : Option ℕ → State → View
view this s = record { page = s.page; classes = s.classes; variables = s.variables; this = this }

-- what is found there, or the fault of looking; the state stays
abbrev pub look : {A : Type 0} → Option ℕ → (View → Result A Fault) → Step State A
look this find s = settle (find (view this s)) s
