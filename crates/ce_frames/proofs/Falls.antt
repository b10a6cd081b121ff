-- No step that a turn makes by itself raises the potential. One lemma for each way to make a step.
use Rattle.std.proofs.Common.{◌≡◌, ℕ, suc, ◌+◌, ◌≤◌, Bool, true, false, List, [], ◌∷◌, ◌++◌, length, Option, Some, None, refl, ap, ◌∙◌, arith, length-append}
use Rattle.std.specs.Prelude.{Result, Ok, Err, sum_by}
use Rattle.std.proofs.lemmas.List.Sums.{sum_by-cons}
use Rattle.ce_base.specs.declared.custom_state.CustomState.{CustomState}
use Rattle.ce_base.specs.declared.fault.Fault.{Fault}
use Rattle.reaction_queue.specs.declared.reaction.Reaction.{Reaction}
use Rattle.reaction_queue.specs.Queues.{Queues, Open, waiting_at, with_waiting, counted, appended_to, enqueued}
use Rattle.ce_events.specs.declared.event.Event.{Event}
use Rattle.ce_algorithms.specs.Steps.{Step, Outcome, Goes, Throws, Spent, then_do, ◌>>=◌, ◌>>◌, give, done, throw, settle, read, throw_if, found, throw_where}
use Rattle.ce_algorithms.specs.Steps.{for_each, catch_in, attempt_in}
use Rattle.ce_algorithms.specs.Page.{Page, Work, with_queues, with_state, with_definition}
use Rattle.ce_algorithms.specs.Enqueue.{noted}
use Rattle.ce_algorithms.specs.State.{State, Class, View, view, look, log, logged, on_page, with_outcome, work_of, read_page, change_page, set_variable}
use Rattle.ce_algorithms.specs.State.{change_class}
use Rattle.ce_algorithms.proofs.PageSteps.{Keeps, Closed, work_in}
use Rattle.ce_algorithms.proofs.Low.{lower, with_waiting_load}
use Rattle.ce_frames.specs.Work.{elements_in, places, potential_of, potential}
use Rattle.ce_frames.specs.Whole.{state_in}

-- primitives of the page

abbrev pub Sinks : Work → Work → Type 0
Sinks v w = potential_of w ≤ potential_of v

appended_places : (os : List Open) (n : ℕ) (q : Queues) → q.stack ≡ os → places (appended_to os n q) ≤ places q + 1
appended_places [] n q is = omega arith
appended_places (o ∷ os) n q is =
    let h : places q ≡ length o.elements + sum_by elements_in os = ap (λ xs. sum_by elements_in xs) is ∙ sum_by-cons elements_in o os in
    let k = sum_by-cons elements_in (record o { elements = o.elements ++ n ∷ [] }) os in
    let l = length-append o.elements (n ∷ []) in
    omega (arith, h, k, l)

enqueued_places : (n : ℕ) (r : Reaction) (q : Queues) → places (enqueued n r q) ≤ places q + 1
enqueued_places n r q =
    let counts = counted q in
    appended_places q.stack n (with_waiting n (waiting_at counts n ++ (counts.reactions, r) ∷ []) counts) refl

-- the clock does not rise, and the fuel that is spent pays for the place
enqueued_sinks : (n : ℕ) (r : Reaction) (k : ℕ) (w : Work) → w.fuel ≡ suc k
    → Sinks w (record { page = noted n r (with_queues (enqueued n r) w.page); fuel = k })
enqueued_sinks n r k w is = let h = lower.enqueued n r k w is in let p = enqueued_places n r w.page.queues in omega (arith, h, p, is)

pub sinks : Closed Sinks
sinks = record {
  same = λ w. omega arith;
  next = λ u v w h k. omega (arith, h, k);
  forest = λ f w. omega arith;
  element = λ n e w. omega arith;
  defined = λ d w. omega arith;
  node = λ f w. omega arith;
  stacks = λ f w. omega arith;
  controls = λ cs w. omega arith;
  internals = λ is w. omega arith;
  spent = λ k w is. omega (arith, is);
  enqueued = enqueued_sinks;
}

outcome_sinks : {A : Type 0} (s : State) (o : Outcome Work A) → Sinks (work_of s) (work_in o) → potential (state_in (with_outcome o s)) ≤ potential s
unfolding potential
outcome_sinks s (Goes a w) h = h
outcome_sinks s (Throws f w) h = h
outcome_sinks s (Spent w) h = h

-- what is logged does not count
pub logged_potential : (e : Event) (s : State) → potential (logged e s) ≡ potential s
unfolding potential
logged_potential e s = refl

-- steps of the session

pub record Falls {A : Type 0} (f : Step State A) : Type 0 where
  pub at : (s : State) → potential (state_in (f s)) ≤ potential s

pub falls_page : {A : Type 0} {f : Step Work A} → Keeps Sinks f → Falls (on_page f)
unfolding potential
falls_page {f} h = record { at = λ s. outcome_sinks s (f (work_of s)) (h.at (work_of s)) }

-- what comes after an outcome
pub falls_then : {A B : Type 0} {k : A → Step State B} (o : Outcome State A) → ((a : A) → Falls (k a))
    → potential (state_in (then_do o k)) ≤ potential (state_in o)
falls_then (Goes a s) h = (h a).at s
falls_then (Throws f s) h = omega arith
falls_then (Spent s) h = omega arith

pub falls_catch : {A : Type 0} {k : Fault → Step State A} (o : Outcome State A) → ((f : Fault) → Falls (k f))
    → potential (state_in (catch_in o k)) ≤ potential (state_in o)
falls_catch (Goes a s) h = omega arith
falls_catch (Throws f s) h = (h f).at s
falls_catch (Spent s) h = omega arith

pub falls_bind : {A B : Type 0} {f : Step State A} {k : A → Step State B} → Falls f → ((a : A) → Falls (k a)) → Falls (f >>= k)
falls_bind {f} h next = record { at = λ s. let a = falls_then (f s) next in let b = h.at s in omega (arith, a, b) }

pub falls_seq : {A B : Type 0} {f : Step State A} {k : Step State B} → Falls f → Falls k → Falls (f >> k)
falls_seq {f} h next = record { at = λ s. let a = falls_then (f s) (λ _. next) in let b = h.at s in omega (arith, a, b) }

pub falls_give : {A : Type 0} (a : A) → Falls (give a)
falls_give a = record { at = λ s. omega arith }

pub falls_done : Falls done
falls_done = record { at = λ s. omega arith }

pub falls_throw : {A : Type 0} (f : Fault) → Falls {A = A} (throw f)
falls_throw f = record { at = λ s. omega arith }

attempt_state : {A : Type 0} (o : Outcome State A) → potential (state_in (attempt_in o)) ≤ potential (state_in o)
attempt_state (Goes a s) = omega arith
attempt_state (Throws f s) = omega arith
attempt_state (Spent s) = omega arith

pub falls_attempt : {A : Type 0} {f : Step State A} → Falls f → Falls (λ s. attempt_in (f s))
falls_attempt {f} h = record { at = λ s. let a = attempt_state (f s) in let b = h.at s in omega (arith, a, b) }

pub falls_settle : {A : Type 0} (r : Result A Fault) → Falls (settle r)
falls_settle (Ok a) = falls_give a
falls_settle (Err f) = falls_throw f

pub falls_look : {A : Type 0} (this : Option ℕ) (find : View → Result A Fault) → Falls (look this find)
falls_look this find = record { at = λ s. (falls_settle (find (view this s))).at s }

pub falls_read : {A : Type 0} (r : State → A) → Falls (read r)
falls_read r = record { at = λ s. omega arith }

pub falls_read_page : {A : Type 0} (r : Page → A) → Falls (read_page r)
falls_read_page r = record { at = λ s. omega arith }

pub falls_log : (e : Event) → Falls (log e)
falls_log e = record { at = λ s. let h = logged_potential e s in omega (arith, h) }

pub falls_set_variable : (v : List ℕ) (n : ℕ) → Falls (set_variable v n)
unfolding potential
falls_set_variable v n = record { at = λ s. omega arith }

pub falls_change_class : (k : ℕ) (f : Class → Class) → Falls (change_class k f)
unfolding potential
falls_change_class k f = record { at = λ s. omega arith }

pub falls_state : (n : ℕ) (c : CustomState) → Falls (change_page (with_state n c))
unfolding potential
falls_state n c = record { at = λ s. omega arith }

pub falls_definition : (n : ℕ) (d : Option ℕ) → Falls (change_page (with_definition n d))
unfolding potential
falls_definition n d = record { at = λ s. omega arith }

-- an element's reactions are dropped
pub falls_dropped : (n : ℕ) → Falls (change_page (with_queues (with_waiting n [])))
unfolding potential
falls_dropped n = record { at = λ s. let h = with_waiting_load n [] s.page.queues in omega (arith, h) }

pub falls_throw_if : (test : Bool) (f : Fault) → Falls (throw_if test f)
falls_throw_if true f = falls_throw f
falls_throw_if false f = falls_done

pub falls_found : {A : Type 0} (o : Option A) (f : Fault) → Falls (found o f)
falls_found None f = falls_throw f
falls_found (Some a) f = falls_give a

pub falls_throw_where : (test : State → Bool) (f : Fault) → Falls (throw_where test f)
falls_throw_where test f = falls_bind (falls_read test) (λ holds. falls_throw_if holds f)

pub falls_each : {A : Type 0} {f : A → Step State (Unit {0})} (xs : List A) → ((a : A) → Falls (f a)) → Falls (for_each xs f)
falls_each [] h = falls_done
falls_each (x ∷ xs) h = falls_seq (h x) (falls_each xs h)

-- what the proofs by `search` cite
pub ruleset falls_steps = (
  falls_throw_where,
  falls_bind,
  falls_seq,
  falls_read,
  falls_read_page,
  falls_give,
  falls_throw,
  falls_log,
  falls_change_class,
  falls_state,
  falls_definition,
  falls_dropped,
  falls_throw_if,
  falls_each,
  falls_look,
  falls_page,
)
