-- Steps of the session's state that the definitions do not name.
use Rattle.std.specs.Prelude.{◌≡◌, ◌≤◌, ◌<◌, ◌+◌, ◌^◌, ℕ, Bool, true, false, List, [], ◌∷◌, Option, None, Some, Result, Ok, Err}
use Rattle.rule_tokens.specs.declared.callback.CallName.{CallName}
use Rattle.node_trees.specs.Nodes.{size}
use Rattle.reaction_queue.specs.declared.reaction.Reaction.{Reaction}
use Rattle.reaction_queue.specs.Queues.{waiting_at, with_waiting}
use Rattle.ce_registry.specs.declared.definition.Definition.{Definition}
use Rattle.ce_events.specs.declared.event.Event.TheVariants.{FuelLine}
use Rattle.ce_algorithms.specs.Drain.{with_backup}
use Rattle.ce_algorithms.specs.Page.{Page, with_queues}
use Rattle.ce_algorithms.specs.Parts.{change_facts, with_has}
use Rattle.ce_algorithms.specs.State.{State, with_work, work_of, logged}
use Rattle.ce_page.specs.declared.stop.PageStop.{PageStop}
use Rattle.ce_page.specs.declared.stop.PageStop.TheVariants.{Refused, FuelSpent, NoMemory}
use Rattle.class_table.specs.Classes.{changed, frozen_class}
use Rattle.session_state.specs.Variables.{highest}

-- the fuel bounds the numbers that are still given; there is a node; no variable holds a number past those of the nodes
abbrev pub AreBounded : Page → ℕ → List (List ℕ × ℕ) → Type 0
AreBounded p fuel variables = (p.queues.reactions + fuel < 2 ^ 64) × (p.queues.pushed + fuel < 2 ^ 64) × (0 < size p.forest)
    × (highest variables ≤ size p.forest)

-- a call of the page found no fuel
abbrev pub is_out_of_fuel : {A : Type 0} → Result A PageStop → Bool
is_out_of_fuel (Ok a) = false
is_out_of_fuel (Err (Refused f)) = false
is_out_of_fuel (Err FuelSpent) = true
is_out_of_fuel (Err NoMemory) = false

-- after a call of the page: its notes go into the log, and the line `fuel` where it found none
abbrev pub after_call : Bool → State → State
after_call false s = with_work (work_of s) s
after_call true s = logged FuelLine (with_work (work_of s) s)

-- a definition has the class
abbrev pub with_frozen : ℕ → State → State
with_frozen k s = record s { classes = changed k frozen_class s.classes }

-- a class has the callback
abbrev pub with_call_at : ℕ → CallName → State → State
with_call_at k call s = record s { classes = changed k (change_facts (with_has call)) s.classes }

-- the class whose callback a reaction of an element runs, where the element has a definition
abbrev pub callee : Option Definition → Option ℕ
callee None = None
callee (Some d) = Some d.class

-- the first element of the backup element queue is taken
pub record TakesBackup (old new : State) (e : ℕ) : Type 0 where
  pub first : old.page.queues.backup ≡ e ∷ new.page.queues.backup
  pub taken : new ≡ record old { page = with_queues (with_backup new.page.queues.backup) old.page }

-- the first reaction that waits at an element is taken
pub record TakesReaction (old new : State) (e : ℕ) (w : ℕ × Reaction) : Type 0 where
  pub first : waiting_at old.page.queues e ≡ w ∷ waiting_at new.page.queues e
  pub taken : new ≡ record old { page = with_queues (with_waiting e (waiting_at new.page.queues e)) old.page }

-- it is dropped, and has this number
pub record DropsReaction (old new : State) (e number : ℕ) : Type 0 where
  pub reaction : Reaction
  pub takes : TakesReaction old new e (number, reaction)
