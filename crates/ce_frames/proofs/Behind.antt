-- No frame reads the log.
use Rattle.std.proofs.Common.{◌≡◌, ℕ, true, false, List, [], ◌∷◌, Option, Some, refl, ap, ◌∙◌, sym, append-nil}
use Rattle.std.specs.Prelude.{Result, Ok, Err}
use Rattle.ce_base.specs.declared.fault.Fault.{Fault}
use Rattle.rule_lines.specs.Acts.{Act}
use Rattle.ce_events.specs.declared.event.Event.{Event}
use Rattle.ce_algorithms.specs.declared.given.Given.{Given}
use Rattle.ce_algorithms.specs.declared.given.Given.TheVariants.{Nothing, Node}
use Rattle.ce_algorithms.specs.Steps.{Goes, Throws, Spent, Step, Outcome, then_do, settle, catch_in, finally_in, attempt_in}
use Rattle.ce_algorithms.specs.Construction.{pop_construction}
use Rattle.ce_algorithms.specs.State.{State}
use Rattle.ce_algorithms.specs.Values.{Args}
use Rattle.ce_algorithms.specs.Calls.{DrainBackup}
use Rattle.ce_algorithms.specs.Body.{Flow, Next, Ended, told_next, on_flow, body}
use Rattle.ce_algorithms.specs.Upgrade.{upgrade_ends}
use Rattle.ce_algorithms.specs.Create.{fitting}
use Rattle.ce_algorithms.specs.Perform.{named}
use Rattle.ce_algorithms.specs.Model.{model}
use Rattle.ce_algorithms.specs.Session.{reply_to}
use Rattle.ce_algorithms.specs.Written.{behind_in}
use Rattle.ce_algorithms.proofs.Framed.{Framed, framed_steps, framed_give, framed_done, framed_log, framed_throw, framed_seq, framed_throw_if, framed_found}
use Rattle.ce_algorithms.proofs.Framed.{framed_on_page, then_do_behind, catch_behind, finally_behind, attempt_behind}
use Rattle.ce_algorithms.proofs.FramedLevels.{framed_told, framed_caught, framed_keep, framed_create_failed, framed_upgrade_failed, framed_upgrade_threw}
use Rattle.ce_algorithms.proofs.FramedModel.{framed_model, framed_body, framed_drain, framed_drain_popped}
use Rattle.ce_algorithms.proofs.FramedLines.{framed_checkpoint}
use Rattle.ce_frames.specs.Frames.{Frame, Replying, Checking, DrainingBackup, Naming, Stepping, Draining, InReaction, CreatingFit, CreatingExtended, Upgrading}
use Rattle.ce_frames.specs.Frames.{Constructing, InBody}
use Rattle.ce_frames.specs.Handing.{node_in, given_of, dropped, numbered}
use Rattle.ce_frames.specs.After.{backup_on, drain_on, after}
use Rattle.ce_frames.specs.Rest.{WaitEnd, Went, Threw, Over, outcome_of, rest}
use Rattle.ce_frames.specs.Work.{potential, work}

-- what is made of an outcome is made of it behind any events
record Clear {A B : Type 0} (F : Outcome State A → Outcome State B) : Type 0 where
  pub at : (events : List Event) (o : Outcome State A) → F (behind_in events o) ≡ behind_in events (F o)

clear_same : {A : Type 0} → Clear {A = A} (λ o. o)
clear_same = record { at = λ events o. refl }

clear_then : {A B C : Type 0} {F : Outcome State A → Outcome State B} {k : B → Step State C} → Clear F → ((b : B) → Framed (k b))
    → Clear (λ o. then_do (F o) k)
clear_then {F} {k} h next = record { at = λ events o. ap (λ x. then_do x k) (h.at events o) ∙ then_do_behind events (F o) next }

clear_catch : {A B : Type 0} {F : Outcome State A → Outcome State B} {k : Fault → Step State B} → Clear F → ((f : Fault) → Framed (k f))
    → Clear (λ o. catch_in (F o) k)
clear_catch {F} {k} h next = record { at = λ events o. ap (λ x. catch_in x k) (h.at events o) ∙ catch_behind events (F o) next }

clear_finally : {A B : Type 0} {F : Outcome State A → Outcome State B} {last : Step State (Unit {0})} → Clear F → Framed last
    → Clear (λ o. finally_in (F o) last)
clear_finally {F} {last} h next = record { at = λ events o. ap (λ x. finally_in x last) (h.at events o) ∙ finally_behind events (F o) next }

clear_attempt : {A B : Type 0} {F : Outcome State A → Outcome State B} → Clear F → Clear (λ o. attempt_in (F o))
clear_attempt {F} h = record { at = λ events o. ap attempt_in (h.at events o) ∙ attempt_behind events (F o) }

clear_dropped : Clear dropped
clear_dropped = clear_then clear_same (λ _. framed_done)

clear_numbered : Clear numbered
clear_numbered = clear_then clear_same (λ given. framed_found (node_in given) _)

-- the steps that frames go on with

framed_reply_to : (line : ℕ) (result : Result Given Fault) → Framed (reply_to model line result)
framed_reply_to line result = framed_seq framed_checkpoint (framed_log _)

framed_backup_on : (n : ℕ) → Framed (backup_on n)
framed_backup_on n = framed_seq (framed_seq (framed_drain (n ∷ [])) (framed_seq (framed_model DrainBackup) framed_done)) (framed_log _)

framed_settle : (kept : Result Given Fault) → Framed (settle kept)
framed_settle (Ok given) = framed_give given
framed_settle (Err f) = framed_throw f

framed_drain_on : (queue : ℕ) (elements : List ℕ) (kept : Result Given Fault) → Framed (drain_on queue elements kept)
framed_drain_on queue elements kept = framed_seq (framed_seq (framed_drain elements) (framed_log _)) (framed_settle kept)

framed_named : (var : Option (List ℕ)) (given : Given) → Framed (named var given)
framed_named var given = framed_seq (framed_keep var given) (framed_give given)

framed_fitting : (local : List ℕ) (document n : ℕ) → Framed (fitting local document n)
framed_fitting local document n = search (framed_steps) depth 12

framed_upgrade_ends : (n : ℕ) → Framed (upgrade_ends n)
framed_upgrade_ends n = search (framed_steps) depth 12

framed_told_next : (this : Option ℕ) (given : Given) → Framed (told_next this given)
framed_told_next this given = framed_seq (framed_told given) (framed_give (Next this))

framed_on_flow : (class : ℕ) (args : Args) (actions : List Act) (flow : Flow) → Framed (on_flow (λ this. body model class args this actions) flow)
framed_on_flow class args actions (Next this) = framed_body class args this actions
framed_on_flow class args actions (Ended result) = framed_give result

-- each frame

after_clear : (f : Frame) → Clear (after f)
unfolding after
after_clear (Replying line) = clear_then (clear_then (clear_attempt clear_same) (framed_reply_to line)) (λ _. framed_give Nothing)
after_clear (Checking line result) = clear_then (clear_then clear_same (λ _. framed_log _)) (λ _. framed_give Nothing)
after_clear (DrainingBackup n) = clear_then (clear_then clear_same (λ _. framed_backup_on n)) (λ _. framed_give Nothing)
after_clear (Naming var) = clear_then clear_same (framed_named (Some var))
after_clear (Stepping queue) = clear_finally clear_same (framed_drain_popped queue)
after_clear (Draining queue elements kept) = clear_then clear_same (λ _. framed_drain_on queue elements kept)
after_clear (InReaction number) = clear_then (clear_then (clear_catch clear_dropped (λ f. framed_log _)) (λ _. framed_log _)) (λ _. framed_give Nothing)
after_clear (CreatingFit local document) =
    clear_then (clear_catch (clear_then clear_numbered (framed_fitting local document)) (framed_create_failed local document)) (λ n. framed_give (Node n))
after_clear (CreatingExtended n) =
    clear_then (clear_then (clear_catch clear_dropped (framed_upgrade_failed n)) (λ _. framed_give n)) (λ m. framed_give (Node m))
after_clear (Upgrading n d) =
    clear_then
    (clear_then
    (clear_catch (clear_finally (clear_then clear_numbered (λ result. framed_throw_if _ _)) (framed_on_page (pop_construction d)))
    (framed_upgrade_threw n)) (λ _. framed_upgrade_ends n)) (λ _. framed_give Nothing)
after_clear Constructing =
    clear_then (clear_then (clear_then clear_same (λ given. framed_give (node_in given))) (λ result. framed_found result _)) (λ n. framed_give (Node n))
after_clear (InBody class args this true actions) =
    clear_then (clear_then (clear_catch (clear_then clear_same (framed_told_next this)) (framed_caught this)) (framed_on_flow class args actions))
    (λ result. framed_give (given_of result))
after_clear (InBody class args this false actions) =
    clear_then (clear_then (clear_then clear_same (framed_told_next this)) (framed_on_flow class args actions)) (λ result. framed_give (given_of result))

-- frames on each other
pub rest_behind : (frames : List Frame) (events : List Event) (o : Outcome State Given) → rest frames (behind_in events o) ≡ behind_in events (rest frames o)
unfolding rest
rest_behind [] events o = refl
rest_behind (f ∷ frames) events o = ap (after f) (rest_behind frames events o) ∙ (after_clear f).at events (rest frames o)

-- the log of a state stands before what is still to come

log_behind : (e : WaitEnd) (s : State) → outcome_of e s ≡ behind_in s.log (outcome_of e (record s { log = [] }))
log_behind (Went given) s = ap (λ l. Goes given (record s { log = l })) (sym (append-nil s.log))
log_behind (Threw f) s = ap (λ l. Throws f (record s { log = l })) (sym (append-nil s.log))
log_behind Over s = ap (λ l. Spent (record s { log = l })) (sym (append-nil s.log))

pub rest_forgotten : (frames : List Frame) (e : WaitEnd) (s : State)
    → rest frames (outcome_of e s) ≡ behind_in s.log (rest frames (outcome_of e (record s { log = [] })))
rest_forgotten frames e s = ap (rest frames) (log_behind e s) ∙ rest_behind frames s.log (outcome_of e (record s { log = [] }))

-- and is no work
pub work_forgotten : (frames : List Frame) (s : State) → work frames (record s { log = [] }) ≡ work frames s
unfolding potential
work_forgotten frames s = refl
