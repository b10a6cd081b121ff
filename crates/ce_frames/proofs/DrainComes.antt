-- The turns of reactions and of their queues come to what the algorithms come to.
use Rattle.std.proofs.Common.{not, ◌≡◌, ℕ, List, [], ◌∷◌, Option, Some, None, refl, ap, sym, ◌∙◌}
use Rattle.std.specs.Prelude.{Result}
use Rattle.ce_base.specs.declared.fault.Fault.{Fault}
use Rattle.reaction_queue.specs.declared.reaction.Reaction.{Reaction}
use Rattle.reaction_queue.specs.declared.reaction.Reaction.TheVariants.{Upgrade}
use Rattle.reaction_queue.specs.Reactions.{what_of}
use Rattle.reaction_queue.specs.Queues.{waiting_at, with_waiting}
use Rattle.reaction_queue.specs.ElementQueues.{is_empty}
use Rattle.ce_registry.specs.declared.definition.Definition.{Definition}
use Rattle.ce_events.specs.declared.event.Event.TheVariants.{DrainBegun, Started, QueueClosed}
use Rattle.ce_algorithms.specs.declared.given.Given.{Given}
use Rattle.ce_algorithms.specs.declared.given.Given.TheVariants.{Nothing}
use Rattle.ce_algorithms.specs.Steps.{when, Step, Outcome, Goes, Throws, Spent, then_do, ◌>>◌, give, done, settle}
use Rattle.ce_algorithms.specs.Page.{with_queues, definition_of}
use Rattle.ce_algorithms.specs.State.{State, class_of, log, logged, change_page}
use Rattle.ce_algorithms.specs.Calls.{DrainRest, DrainBackup}
use Rattle.ce_algorithms.specs.Values.{args_of}
use Rattle.ce_algorithms.specs.Body.{body}
use Rattle.ce_algorithms.specs.Upgrade.{upgrade}
use Rattle.ce_algorithms.specs.Drain.{log_call, actions_for, call_back, call_defined, run_reaction, react, drain, drain_first, with_backup, drain_backup}
use Rattle.ce_algorithms.specs.Drain.{drain_all_backup}
use Rattle.ce_algorithms.specs.Model.{model}
use Rattle.ce_algorithms.specs.Session.{reply, reply_to}
use Rattle.ce_algorithms.proofs.Steady.{model_level}
use Rattle.ce_frames.specs.Frames.{Frame, Checking, DrainingBackup, Draining, InReaction}
use Rattle.ce_frames.specs.Handing.{nothing, a_result, dropped}
use Rattle.ce_frames.specs.After.{after, backup_on, drain_on, settled}
use Rattle.ce_frames.specs.Turned.{Turn, below}
use Rattle.ce_frames.specs.DrainTurns.{call_turn, reaction_turn, take_turn, taken_turn, drain_turn, next_backup_turn, taken_backup_turn, backup_turn}
use Rattle.ce_frames.specs.DrainTurns.{checked_turn, check_turn}
use Rattle.ce_frames.proofs.Joins.{then_assoc, then_same, nothing_then, dropped_nothing}
use Rattle.ce_frames.proofs.Comes.{comes, Comes, comes_ended, comes_with_below, comes_down, comes_below, comes_bind}
use Rattle.ce_frames.proofs.ConstructComes.{begin_comes, upgrade_comes}
use Rattle.ce_frames.proofs.OperateComes.{next_comes}

-- one reaction

-- what a callback gives is dropped
result_dropped : (o : Outcome State (Option ℕ)) → dropped (a_result o) ≡ then_do o (λ _. done)
result_dropped (Goes result s) = refl
result_dropped (Throws f s) = refl
result_dropped (Spent s) = refl

-- the reaction's frame, above it what begins
in_reaction_comes : (number : ℕ) {turn : Turn} {step : Step State Given} (whole : Step State (Unit {0})) → Comes turn step
    → ((s : State) → dropped (step s) ≡ whole s) → Comes (below (InReaction number) turn) (λ s. nothing (settled number (whole s)))
unfolding after
in_reaction_comes number whole h is = comes_below (InReaction number) h (λ s. ap (λ o. nothing (settled number o)) (is s))

-- a callback
called_back : ℕ → ℕ → Reaction → Step State Given
called_back n class r s =
    then_do (log_call n r s) (λ _ t. a_result (body model class (args_of r) (Some n) (actions_for (what_of r) (class_of t class).bodies) t))

called_comes : (n : ℕ) (r : Reaction) (d : Definition) → Comes (call_turn n r (Some d)) (called_back n d.class r)
unfolding called_back
called_comes n r d =
    comes_bind _ _ (λ _. record { at = λ s. (begin_comes d.class (args_of r) (Some n) (actions_for (what_of r) (class_of s d.class).bodies)).at s })

called_dropped : (n class : ℕ) (r : Reaction) (s : State) → dropped (called_back n class r s) ≡ call_back model n class r s
unfolding called_back
called_dropped n class r s =
    then_assoc (log_call n r s) (λ _ t. a_result (body model class (args_of r) (Some n) (actions_for (what_of r) (class_of t class).bodies) t)) (λ _. done)
    ∙ then_same (log_call n r s) _ _ (λ _ t. result_dropped (body model class (args_of r) (Some n) (actions_for (what_of r) (class_of t class).bodies) t))

call_comes : (number n : ℕ) (r : Reaction) (d : Option Definition)
    → Comes (below (InReaction number) (call_turn n r d)) (λ s. nothing (settled number (call_defined model n r d s)))
call_comes number n r None = in_reaction_comes number (call_defined model n r None) (comes_down (give Nothing)) (λ s. refl)
call_comes number n r (Some d) = in_reaction_comes number (call_back model n d.class r) (called_comes n r d) (called_dropped n d.class r)

reaction_comes : (number n : ℕ) (r : Reaction)
    → Comes (below (InReaction number) (reaction_turn n r)) (λ s. nothing (settled number (run_reaction model n r s)))
unfolding reaction_turn
reaction_comes number n (Upgrade d) = in_reaction_comes number (upgrade model n d) (upgrade_comes n d) (λ s. dropped_nothing (upgrade model n d s))
reaction_comes number n r = record { at = λ s. (call_comes number n r (definition_of s.page n)).at s }

-- the state after a reaction was taken
abbrev taken : ℕ → List (ℕ × Reaction) → State → State
taken n ws s = record s { page = with_queues (with_waiting n ws) s.page }

take_comes : (f : Frame) (n : ℕ) (w : ℕ × Reaction) (ws : List (ℕ × Reaction)) (s : State)
    → comes (take_turn f n w ws s) ≡ after f (nothing (react model n w (taken n ws s)))
take_comes f n w ws s = comes_with_below f _ ∙ ap (after f) ((reaction_comes w.0 n w.1).at (logged (Started w.0) (taken n ws s)))

-- what the model drains

-- a step that gives nothing, and then an answer that nothing reads
given_nothing : (o : Outcome State (Unit {0})) → then_do (then_do o (λ _. give Nothing)) (λ _. done) ≡ o
given_nothing (Goes a s) = refl
given_nothing (Throws f s) = refl
given_nothing (Spent s) = refl

drain_rest : (ns : List ℕ) (s : State) → then_do (model (DrainRest ns) s) (λ _. done) ≡ drain model ns s
drain_rest ns s = ap (λ o. then_do o (λ _. done)) (model_level (DrainRest ns) s) ∙ given_nothing (drain model ns s)

backup_rest : (s : State) → then_do (model DrainBackup s) (λ _. done) ≡ drain_backup model s
backup_rest s = ap (λ o. then_do o (λ _. done)) (model_level DrainBackup s) ∙ given_nothing (drain_backup model s)

-- after a reaction the draining goes on
drained : {B : Type 0} (o : Outcome State (Unit {0})) (ns : List ℕ) (next : Step State B)
    → then_do o (λ _ s. then_do (drain model ns s) (λ _. next)) ≡ then_do (then_do o (λ _. model (DrainRest ns) >> done)) (λ _. next)
drained o ns next =
    then_same o (λ _ s. then_do (drain model ns s) (λ _. next)) (λ _ s. then_do ((model (DrainRest ns) >> done) s) (λ _. next))
    (λ _ s. ap (λ x. then_do x (λ _. next)) (sym (drain_rest ns s)))
    ∙ sym (then_assoc o (λ _. model (DrainRest ns) >> done) (λ _. next))

-- by what waits at the first element
abbrev drain_at : ℕ → List ℕ → List (ℕ × Reaction) → Step State (Unit {0})
drain_at n ns waiting =
    elim waiting as
    (λ _. Step State (Unit {0})) [
      | [] ↦ drain model ns
      | w ∷ ws ↦ change_page (with_queues (with_waiting n ws)) >>
          (react model n w >> (model (DrainRest (n ∷ ns)) >> done))
    ]

-- a popped element queue

taken_comes : (queue n : ℕ) (ns : List ℕ) (kept : Result Given Fault) (waiting : List (ℕ × Reaction)) (s : State)
    → comes (taken_turn queue n ns kept waiting s) ≡ then_do (then_do (drain_at n ns waiting s) (λ _. log (QueueClosed queue))) (λ _. settle kept)
unfolding after
taken_comes queue n ns kept [] s = (next_comes queue ns kept).at s
taken_comes queue n ns kept (w ∷ ws) s =
    let o : Outcome State (Unit {0}) = react model n w (taken n ws s) in
    take_comes (Draining queue (n ∷ ns) kept) n w ws s
    ∙ nothing_then o (drain_on queue (n ∷ ns) kept)
    ∙ sym (then_assoc o (λ _ t. then_do (drain model (n ∷ ns) t) (λ _. log (QueueClosed queue))) (λ _. settle kept))
    ∙ ap (λ x. then_do x (λ _. settle kept)) (drained o (n ∷ ns) (log (QueueClosed queue)))

pub drain_comes : (queue : ℕ) (elements : List ℕ) (kept : Result Given Fault) → Comes (drain_turn queue elements kept) (drain_on queue elements kept)
drain_comes queue [] kept = next_comes queue [] kept
drain_comes queue (n ∷ ns) kept = record { at = λ s. taken_comes queue n ns kept (waiting_at s.page.queues n) s }

-- the backup element queue

next_backup_comes : (elements : List ℕ) (s : State)
    → comes (next_backup_turn elements s) ≡ nothing (then_do (drain_first model elements s) (λ _. log (QueueClosed 0)))
unfolding after
next_backup_comes [] s = comes_ended (Goes Nothing (logged (QueueClosed 0) s))
next_backup_comes (n ∷ ns) s =
    comes_with_below (DrainingBackup n) _ ∙ ap (after (DrainingBackup n)) (comes_ended (Goes Nothing (record s { page = with_queues (with_backup ns) s.page })))

taken_backup_comes : (n : ℕ) (waiting : List (ℕ × Reaction)) (s : State)
    → comes (taken_backup_turn n waiting s) ≡ nothing (then_do (then_do (drain_at n [] waiting s) (λ _. model DrainBackup >> done)) (λ _. log (QueueClosed 0)))
unfolding after
taken_backup_comes n [] s = next_backup_comes s.page.queues.backup s ∙ ap (λ x. nothing (then_do x (λ _. log (QueueClosed 0)))) (sym (backup_rest s))
taken_backup_comes n (w ∷ ws) s =
    let o : Outcome State (Unit {0}) = react model n w (taken n ws s) in
    take_comes (DrainingBackup n) n w ws s
    ∙ ap (λ x. nothing x) (nothing_then o (backup_on n)
    ∙ sym (then_assoc o (λ _ t. then_do (drain model (n ∷ []) t) (λ _. model DrainBackup >> done)) (λ _. log (QueueClosed 0)))
    ∙ ap (λ x. then_do x (λ _. log (QueueClosed 0))) (drained o (n ∷ []) (model DrainBackup >> done)))

pub backup_comes : (n : ℕ) → Comes (backup_turn n) (λ s. nothing (backup_on n s))
backup_comes n = record { at = λ s. taken_backup_comes n (waiting_at s.page.queues n) s }

-- the checkpoint

checked_comes : (line : ℕ) (kept : Result Given Fault) (elements : List ℕ) (s : State) → s.page.queues.backup ≡ elements
    → comes (checked_turn line kept elements s) ≡ nothing (then_do (when (not (is_empty elements)) (drain_all_backup model) s) (λ _. log (reply line kept)))
unfolding after
checked_comes line kept [] s is = comes_ended (Goes Nothing (logged (reply line kept) s))
checked_comes line kept (n ∷ ns) s is =
    let t : State = logged (DrainBegun 0) s in
    let o : Outcome State (Unit {0}) = then_do (drain_first model (n ∷ ns) t) (λ _. log (QueueClosed 0)) in
    comes_with_below (Checking line kept) _ ∙ ap (after (Checking line kept)) (next_backup_comes (n ∷ ns) t)
    ∙ ap (λ x. nothing x)
    (nothing_then o (log (reply line kept))
    ∙ ap (λ xs. then_do (then_do (drain_first model xs t) (λ _. log (QueueClosed 0))) (λ _. log (reply line kept))) (sym is))

pub check_comes : (line : ℕ) (kept : Result Given Fault) → Comes (check_turn line kept) (λ s. nothing (reply_to model line kept s))
check_comes line kept = record { at = λ s. checked_comes line kept s.page.queues.backup s refl ∙ refl }
