-- What the loop keeps: what is still to come stands behind events whose text was written.
use Rattle.std.proofs.Common.{◌≡◌, ◌<◌, ℕ, Bool, true, false, List, [], ◌∷◌, ◌++◌, Option, refl, ap, sym, ◌∙◌, subst, arith}
use Rattle.std.specs.Io.KnownBytes.{Appends}
use Rattle.ce_base.specs.Outside.{AppendsPart}
use Rattle.ce_algorithms.specs.declared.given.Given.{Given}
use Rattle.ce_algorithms.specs.Session.{log_of}
use Rattle.ce_algorithms.specs.State.{State, forgotten}
use Rattle.ce_algorithms.specs.Steps.{Outcome}
use Rattle.ce_events.specs.Text.{text}
use Rattle.ce_algorithms.specs.Written.{Did}
use Rattle.ce_algorithms.proofs.Growth.{Grows, log_of-behind}
use Rattle.ce_algorithms.proofs.Writing.{did_through, part_through, part_grows}
use Rattle.ce_frames.specs.Rest.{WaitEnd, outcome_of, rest}
use Rattle.ce_frames.specs.Turned.{Turned}
use Rattle.ce_frames.specs.Turns.{turn}
use Rattle.ce_frames.specs.Work.{potential, work}
use Rattle.ce_frames.proofs.Behind.{rest_forgotten}
use Rattle.ce_frames.proofs.TurnComes.{turn_leaves}
use Rattle.ce_frames.proofs.TurnCosts.{turn_lowers}
use Rattle.frame_stack.specs.Sessions.{session}
use Rattle.frame_stack.specs.Stacked.{Stacked, frames_of}
use Rattle.reaction_queue.specs.ElementQueues.{is_empty}
use Rattle.ce_frames.specs.Frames.{Frame}
use Rattle.ce_outcomes.specs.declared.came.Came.{Came}
use Rattle.ce_outcomes.specs.Turns.{Turns, came_in, end_of}
use Rattle.ce_machine.specs.Turns.{left, over}

-- one turn

-- what is still to come stays
pub turned_rest : (old new : Stacked) (under : List Frame) (f : Frame) (end now : Came) (s s1 : State) → frames_of old ≡ under ++ f ∷ []
    → Turns under (frames_of new) now s1 (turn f (end_of end) s) → over new (came_in now s1) ≡ over old (came_in end s)
unfolding over
turned_rest old new under f end now s s1 popped h =
    let t : Turned = turn f (end_of end) s in
    ap (rest (frames_of new)) (ap (λ e. outcome_of e s1) h.end ∙ ap (outcome_of t.end) h.state)
    ∙ ap (λ l. rest l (outcome_of t.end t.state)) h.frames
    ∙ turn_leaves under f (end_of end) s
    ∙ ap (λ l. rest l (outcome_of (end_of end) s)) (sym popped)

-- what is left to do falls
pub turned_left : (old new : Stacked) (under : List Frame) (f : Frame) (end now : Came) (s s1 : State) → frames_of old ≡ under ++ f ∷ []
    → Turns under (frames_of new) now s1 (turn f (end_of end) s) → left new s1 < left old s
unfolding left
turned_left old new under f end now s s1 popped h =
    let t : Turned = turn f (end_of end) s in
    let a : work (frames_of new) s1 ≡ work (under ++ t.pushed) t.state = ap (λ l. work l s1) h.frames ∙ ap (work (under ++ t.pushed)) h.state in
    let b : work (frames_of old) s ≡ work (under ++ f ∷ []) s = ap (λ l. work l s) popped in
    let c = turn_lowers under f (end_of end) s in
    omega (arith, a, b, c)

-- the log is written out

flush_did : {t : Bool} {h0 h1 h2 : Option (List ℕ)} {o : Outcome State Given} (frames : List Frame) (end : WaitEnd) (s : State)
    → Did t h0 h1 o (rest frames (outcome_of end s)) → Appends h1 h2 (text t s.log) → Did t h0 h2 o (rest frames (outcome_of end (forgotten s)))
flush_did {t} {h0} {h1} {h2} {o} frames end s d w =
    let more : Did t h1 h2 (rest frames (outcome_of end s)) (rest frames (outcome_of end (forgotten s))) =
    record { events = s.log; written = w; same = rest_forgotten frames end s } in
    did_through (λ x. x) d (λ events. refl) more

flush_part : {t : Bool} {h0 h1 : Option (List ℕ)} {o : Outcome State Given} (h2 : Option (List ℕ)) (frames : List Frame) (end : WaitEnd) (s : State)
    → Did t h0 h1 o (rest frames (outcome_of end s)) → AppendsPart h1 h2 (text t s.log) → AppendsPart h0 h2 (text t (log_of o))
flush_part {t} {h0} {h1} {o} h2 frames end s d p =
    let grows : Grows s.log (log_of (rest frames (outcome_of end s))) =
    record {
      more = log_of (rest frames (outcome_of end (forgotten s)));
      is = sym (ap log_of (rest_forgotten frames end s) ∙ log_of-behind s.log (rest frames (outcome_of end (forgotten s))));
    } in
    part_through h2 (λ x. x) d (λ events. refl) (part_grows t h1 h2 grows p)

-- what was logged is written out
pub flushed : {t : Bool} {h0 h1 h2 : Option (List ℕ)} {o : Outcome State Given} (stack : Stacked) (now : Came) (s s' : State)
    → Did t h0 h1 o (over stack (came_in now (session stack s))) → Appends h1 h2 (text t s.log) → s' ≡ forgotten s
    → Did t h0 h2 o (over stack (came_in now (session stack s')))
unfolding over
flushed {t} {h0} {h1} {h2} {o} stack now s s' d w is =
    subst (λ x. Did t h0 h2 o (rest (frames_of stack) (outcome_of (end_of now) (session stack x)))) (sym is)
    (flush_did (frames_of stack) (end_of now) (session stack s) d w)

-- a front of it was
pub flushed_part : {t : Bool} {h0 h1 : Option (List ℕ)} {o : Outcome State Given} (h2 : Option (List ℕ)) (stack : Stacked) (now : Came) (s : State)
    → Did t h0 h1 o (over stack (came_in now (session stack s))) → AppendsPart h1 h2 (text t s.log) → AppendsPart h0 h2 (text t (log_of o))
unfolding over
flushed_part h2 stack now s d p = flush_part h2 (frames_of stack) (end_of now) (session stack s) d p

-- a turn leaves it
pub turned_did : {t : Bool} {h0 h1 : Option (List ℕ)} {o p q : Outcome State Given} → Did t h0 h1 o p → q ≡ p → Did t h0 h1 o q
turned_did {t} {h0} {h1} {o} d same = subst (λ y. Did t h0 h1 o y) (sym same) d

-- no frame is left

pub no_frames : (l : List Frame) → is_empty l ≡ true → l ≡ []
no_frames [] h = refl
no_frames (f ∷ l) h = absurd (let e : false ≡ true = h in cc)

pub ended_did : {t : Bool} {h0 h1 : Option (List ℕ)} {o : Outcome State Given} (stack : Stacked) (x : Outcome State Given) → frames_of stack ≡ []
    → Did t h0 h1 o (over stack x) → Did t h0 h1 o x
unfolding over rest
ended_did {t} {h0} {h1} {o} stack x none d = subst (λ l. Did t h0 h1 o (rest l x)) none d

-- what was logged does not count
pub left_forgotten : (stack : Stacked) (s s' : State) → s' ≡ forgotten s → left stack (session stack s') ≡ left stack (session stack s)
unfolding left potential
left_forgotten stack s s' is = ap (λ x. work (frames_of stack) (session stack x)) is

pub less_of : (a b c : ℕ) → a < b → b ≡ c → a < c
less_of a b c h e = omega (arith, h, e)
