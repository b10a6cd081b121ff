-- Turns of operations (HTML Standard, section "Custom element reactions", [CEReactions]).
use Rattle.std.specs.Prelude.{ℕ, not, if◌then◌else◌, List, [], ◌∷◌, Option, Some, None, Result}
use Rattle.std.specs.Str.{str_to_ascii_lowercase}
use Rattle.ce_base.specs.declared.fault.Fault.{Fault}
use Rattle.ce_base.specs.declared.fault.Fault.TheVariants.{InvalidCharacterError}
use Rattle.element_names.specs.Names.{local_name}
use Rattle.rule_lines.specs.declared.line.Cmd.{Cmd}
use Rattle.rule_lines.specs.declared.op.Op.{Op}
use Rattle.ce_algorithms.specs.declared.deed.Deed.{Deed}
use Rattle.ce_algorithms.specs.declared.deed.Deed.TheVariants.{Create, New}
use Rattle.ce_events.specs.declared.event.Event.TheVariants.{DrainBegun, QueueClosed}
use Rattle.ce_algorithms.specs.declared.given.Given.{Given}
use Rattle.ce_algorithms.specs.Steps.{Step, settle, attempt, throw_if}
use Rattle.ce_algorithms.specs.State.{State, View, look, log}
use Rattle.ce_algorithms.specs.Deeds.{resolve, resolve_user, is_reacting, variable}
use Rattle.ce_algorithms.specs.Drain.{open_queue, pop_queue}
use Rattle.ce_algorithms.specs.Perform.{steps}
use Rattle.ce_frames.specs.Frames.{Naming, Stepping, Draining}
use Rattle.ce_frames.specs.Turned.{Turn, ◌>>=◌, ◌>>◌, hand_down, go_on, below, no_calls}
use Rattle.ce_frames.specs.ConstructTurns.{construct_turn, create_turn}

-- the queue around the steps

-- a popped element queue goes on with its next element, or is closed
abbrev pub next_turn : ℕ → List ℕ → Result Given Fault → Turn
next_turn queue [] kept = do
  log (QueueClosed queue)
  hand_down (settle kept)
next_turn queue (n ∷ ns) kept = below (Draining queue (n ∷ ns) kept) go_on

-- the steps have ended: the current element queue is popped, and is to be drained
abbrev pub pop_turn : ℕ → Result Given Fault → Turn
pop_turn queue kept = do
  elements ← pop_queue
  log (DrainBegun queue)
  next_turn queue elements kept

-- an element queue is pushed, and steps run that wait for nothing
unfoldable pub steps_turn : Step State Given → Turn
steps_turn steps = do
  queue ← open_queue
  kept ← attempt steps
  pop_turn queue kept

-- deeds

-- the name is tested, and then lowercased (DOM Standard, section "Interface Document", `createElement`)
abbrev pub create_named_turn : List ℕ → Option (List ℕ) → ℕ → Turn
create_named_turn name is document = do
  throw_if (not (local_name name)) InvalidCharacterError
  create_turn (str_to_ascii_lowercase name) is document

-- what an operation came to is done. A creation and a construction may wait; the steps of the others call nothing
unfoldable pub deed_turn : Deed → Turn
deed_turn (Create local is document) = do
  queue ← open_queue
  below (Stepping queue) (create_named_turn local is document)
deed_turn (New class) = construct_turn class
deed_turn deed = if is_reacting deed then steps_turn (steps no_calls deed) else hand_down (steps no_calls deed)

-- operations

-- a variable waits for what is given
abbrev pub named_turn : Option (List ℕ) → Turn → Turn
named_turn None turn = turn
named_turn (Some var) turn = below (Naming var) turn

-- the operands are read and fit, and then the deed is done
abbrev pub resolved_turn : Option ℕ → (View → Result Deed Fault) → Option (List ℕ) → Turn
resolved_turn this resolved var = do
  deed ← look this resolved
  named_turn var (deed_turn deed)

unfoldable pub operate_turn : Option ℕ → Op → Turn
operate_turn this op = resolved_turn this (λ v. resolve v op) (variable op)

-- what the user does
unfoldable pub user_turn : Cmd → Turn
user_turn c = resolved_turn None (λ v. resolve_user v c) None
