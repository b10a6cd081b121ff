-- Turns of reactions, and of the queues that they are taken from (HTML Standard, section "Custom element reactions").
use Rattle.std.specs.Prelude.{ℕ, List, [], ◌∷◌, Option, Some, None, Result}
use Rattle.ce_base.specs.declared.fault.Fault.{Fault}
use Rattle.reaction_queue.specs.declared.reaction.Reaction.{Reaction}
use Rattle.reaction_queue.specs.declared.reaction.Reaction.TheVariants.{Upgrade}
use Rattle.reaction_queue.specs.Reactions.{what_of}
use Rattle.reaction_queue.specs.Queues.{waiting_at, with_waiting}
use Rattle.ce_registry.specs.declared.definition.Definition.{Definition}
use Rattle.ce_events.specs.declared.event.Event.TheVariants.{DrainBegun, Started, QueueClosed}
use Rattle.ce_algorithms.specs.declared.given.Given.{Given}
use Rattle.ce_algorithms.specs.Steps.{read}
use Rattle.ce_algorithms.specs.Page.{with_queues, definition_of}
use Rattle.ce_algorithms.specs.State.{class_of, log, read_page, change_page}
use Rattle.ce_algorithms.specs.Values.{args_of}
use Rattle.ce_algorithms.specs.Drain.{log_call, actions_for, with_backup}
use Rattle.ce_algorithms.specs.Session.{reply}
use Rattle.ce_frames.specs.Frames.{Frame, Checking, DrainingBackup, Draining, InReaction}
use Rattle.ce_frames.specs.Turned.{Turn, ◌>>=◌, ◌>>◌, go_on, below}
use Rattle.ce_frames.specs.ConstructTurns.{begin_body, upgrade_turn}
use Rattle.ce_frames.specs.OperateTurns.{next_turn}

-- one reaction

-- a callback begins, where the element has a definition
abbrev pub call_turn : ℕ → Reaction → Option Definition → Turn
call_turn n r None = go_on
call_turn n r (Some d) = do
  log_call n r
  k ← read (λ s. class_of s d.class)
  begin_body d.class (args_of r) (Some n) (actions_for (what_of r) k.bodies)

-- what a reaction does
unfoldable pub reaction_turn : ℕ → Reaction → Turn
reaction_turn n (Upgrade d) = upgrade_turn n d
reaction_turn n r = do
  d ← read_page (λ p. definition_of p n)
  call_turn n r d

-- the first reaction of an element is taken, and runs above a frame that goes on draining
abbrev pub take_turn : Frame → ℕ → (ℕ × Reaction) → List (ℕ × Reaction) → Turn
take_turn frame n w ws = do
  change_page (with_queues (with_waiting n ws))
  log (Started w.0)
  below frame (below (InReaction w.0) (reaction_turn n w.1))

-- a popped element queue

-- by what waits at its first element: its first reaction is taken, or the next element's turn comes
abbrev pub taken_turn : ℕ → ℕ → List ℕ → Result Given Fault → List (ℕ × Reaction) → Turn
taken_turn queue n ns kept [] = next_turn queue ns kept
taken_turn queue n ns kept (w ∷ ws) = take_turn (Draining queue (n ∷ ns) kept) n w ws

-- it is drained on
abbrev pub drain_turn : ℕ → List ℕ → Result Given Fault → Turn
drain_turn queue [] kept = next_turn queue [] kept
drain_turn queue (n ∷ ns) kept = do
  waiting ← read_page (λ p. waiting_at p.queues n)
  taken_turn queue n ns kept waiting

-- the backup element queue

-- its next element is taken, or it is closed
abbrev pub next_backup_turn : List ℕ → Turn
next_backup_turn [] = do
  log (QueueClosed 0)
  go_on
next_backup_turn (n ∷ ns) = do
  change_page (with_queues (with_backup ns))
  below (DrainingBackup n) go_on

-- by what waits at the element that was taken last
abbrev pub taken_backup_turn : ℕ → List (ℕ × Reaction) → Turn
taken_backup_turn n [] = do
  elements ← read_page (λ p. p.queues.backup)
  next_backup_turn elements
taken_backup_turn n (w ∷ ws) = take_turn (DrainingBackup n) n w ws

-- it is drained on, from that element
abbrev pub backup_turn : ℕ → Turn
backup_turn n = do
  waiting ← read_page (λ p. waiting_at p.queues n)
  taken_backup_turn n waiting

-- the checkpoint, and then the reply

-- by what is in the backup element queue
abbrev pub checked_turn : ℕ → Result Given Fault → List ℕ → Turn
checked_turn line result [] = do
  log (reply line result)
  go_on
checked_turn line result (n ∷ ns) = do
  log (DrainBegun 0)
  below (Checking line result) (next_backup_turn (n ∷ ns))

-- the backup element queue is drained where it is not empty
abbrev pub check_turn : ℕ → Result Given Fault → Turn
check_turn line result = do
  elements ← read_page (λ p. p.queues.backup)
  checked_turn line result elements
