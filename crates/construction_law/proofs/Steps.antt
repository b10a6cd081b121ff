-- Steps that leave each construction stack as deep as it was, of a page at work and of a session: a rule for each way to make a step.
use Rattle.std.proofs.Common.{◌≡◌, ℕ, zero, suc, Bool, true, false, List, [], ◌∷◌, Option, Some, None, ap, ◌∙◌, refl}
use Rattle.std.specs.Prelude.{if◌then◌else◌, Result, Ok, Err}
use Rattle.ce_base.specs.declared.fault.Fault.{Fault}
use Rattle.ce_algorithms.specs.Steps.{Step, Outcome, Goes, Throws, Spent, then_do, ◌>>=◌, ◌>>◌, give, done, read, throw, when, throw_if, throw_any, found}
use Rattle.ce_algorithms.specs.Steps.{settle, for_each, catch, catch_in, finally, finally_in, attempt, attempt_in}
use Rattle.ce_algorithms.specs.Page.{Work}
use Rattle.ce_algorithms.specs.Page as page
use Rattle.ce_algorithms.specs.State.{State, View, view, look, spend, spend_from, on_page, with_outcome, work_of}
use Rattle.construction_law.proofs.StackDepths.{Stacks, deep, AreDeep}

-- how deep the stacks are in an outcome, by where its states have them
abbrev pub Stays : {S A : Type 0} → (S → Stacks) → (ℕ → ℕ) → Outcome S A → Type 0
Stays stacks depths (Goes a s) = AreDeep depths (stacks s)
Stays stacks depths (Throws f s) = AreDeep depths (stacks s)
Stays stacks depths (Spent s) = Unit {0}

pub record Leaves {S A : Type 0} (stacks : S → Stacks) (f : Step S A) : Type 0 where
  pub at : (depths : ℕ → ℕ) (s : S) → AreDeep depths (stacks s) → Stays stacks depths (f s)

abbrev pub of_page : Work → Stacks
of_page w = w.page.stacks

abbrev pub of_session : State → Stacks
of_session s = s.page.stacks

-- steps that go on, or throw

-- a step that goes on and changes no stack: what is given, read, logged, or changed elsewhere
pub leaves_goes : {S A : Type 0} {stacks : S → Stacks} (answer : S → A) (changed : S → S) → ((s : S) → stacks (changed s) ≡ stacks s)
    → Leaves stacks (λ s. Goes (answer s) (changed s))
leaves_goes answer changed same = record { at = λ depths s h d. ap (deep d) (same s) ∙ h d }

pub leaves_give : {S A : Type 0} {stacks : S → Stacks} (a : A) → Leaves stacks (give a)
leaves_give a = record { at = λ depths s h. h }

pub leaves_done : {S : Type 0} {stacks : S → Stacks} → Leaves stacks done
leaves_done = record { at = λ depths s h. h }

pub leaves_read : {S A : Type 0} {stacks : S → Stacks} (answer : S → A) → Leaves stacks (read answer)
leaves_read answer = record { at = λ depths s h. h }

pub leaves_throw : {S A : Type 0} {stacks : S → Stacks} (f : Fault) → Leaves {A = A} stacks (throw f)
leaves_throw f = record { at = λ depths s h. h }

-- steps one after another

stays_then : {S A B : Type 0} (stacks : S → Stacks) (depths : ℕ → ℕ) (o : Outcome S A) (k : A → Step S B) → Stays stacks depths o
    → ((a : A) → Leaves stacks (k a)) →
    Stays stacks depths (then_do o k)
stays_then stacks depths (Goes a s) k h next = (next a).at depths s h
stays_then stacks depths (Throws f s) k h next = h
stays_then stacks depths (Spent s) k h next = h

pub leaves_bind : {S A B : Type 0} {stacks : S → Stacks} {f : Step S A} {k : A → Step S B} → Leaves stacks f → ((a : A) → Leaves stacks (k a))
    → Leaves stacks (f >>= k)
leaves_bind {stacks} {f} {k} h next = record { at = λ depths s d. stays_then stacks depths (f s) k (h.at depths s d) next }

pub leaves_seq : {S A B : Type 0} {stacks : S → Stacks} {f : Step S A} {g : Step S B} → Leaves stacks f → Leaves stacks g → Leaves stacks (f >> g)
leaves_seq {stacks} {f} {g} h next = record { at = λ depths s d. stays_then stacks depths (f s) (λ _. g) (h.at depths s d) (λ _. next) }

-- steps by a test

pub leaves_if : {S A : Type 0} {stacks : S → Stacks} {f g : Step S A} (t : Bool) → Leaves stacks f → Leaves stacks g → Leaves stacks (if t then f else g)
leaves_if true h k = h
leaves_if false h k = k

pub leaves_when : {S : Type 0} {stacks : S → Stacks} {f : Step S (Unit {0})} (t : Bool) → Leaves stacks f → Leaves stacks (when t f)
leaves_when true h = h
leaves_when false h = leaves_done

pub leaves_throw_if : {S : Type 0} {stacks : S → Stacks} (t : Bool) (f : Fault) → Leaves stacks (throw_if t f)
leaves_throw_if true f = leaves_throw f
leaves_throw_if false f = leaves_done

pub leaves_throw_any : {S : Type 0} {stacks : S → Stacks} (o : Option Fault) → Leaves stacks (throw_any o)
leaves_throw_any None = leaves_done
leaves_throw_any (Some f) = leaves_throw f

pub leaves_found : {S A : Type 0} {stacks : S → Stacks} (o : Option A) (f : Fault) → Leaves stacks (found o f)
leaves_found None f = leaves_throw f
leaves_found (Some a) f = leaves_give a

-- a step for each member of a list
pub leaves_each : {S A : Type 0} {stacks : S → Stacks} {f : A → Step S (Unit {0})} (xs : List A) → ((a : A) → Leaves stacks (f a))
    → Leaves stacks (for_each xs f)
leaves_each [] h = leaves_done
leaves_each (x ∷ xs) h = leaves_seq (h x) (leaves_each xs h)

-- a list that was read
pub leaves_list : {S A B : Type 0} {stacks : S → Stacks} (xs : List A) (none : Step S B) (some : A → List A → Step S B) → Leaves stacks none →
    ((x : A) (rest : List A) → Leaves stacks (some x rest)) → Leaves stacks (elim xs as (λ _. Step S B) [ [] ↦ none | x ∷ rest ↦ some x rest ])
leaves_list [] none some h next = h
leaves_list (x ∷ rest) none some h next = next x rest

-- faults that are caught, or go through

stays_caught : {S A : Type 0} (stacks : S → Stacks) (depths : ℕ → ℕ) (o : Outcome S A) (k : Fault → Step S A) → Stays stacks depths o
    → ((f : Fault) → Leaves stacks (k f)) →
    Stays stacks depths (catch_in o k)
stays_caught stacks depths (Goes a s) k h next = h
stays_caught stacks depths (Throws f s) k h next = (next f).at depths s h
stays_caught stacks depths (Spent s) k h next = h

pub leaves_catch : {S A : Type 0} {stacks : S → Stacks} {f : Step S A} {k : Fault → Step S A} → Leaves stacks f → ((x : Fault) → Leaves stacks (k x))
    → Leaves stacks (catch f k)
leaves_catch {stacks} {f} {k} h next = record { at = λ depths s d. stays_caught stacks depths (f s) k (h.at depths s d) next }

stays_last : {S A : Type 0} (stacks : S → Stacks) (depths : ℕ → ℕ) (o : Outcome S A) (last : Step S (Unit {0})) → Stays stacks depths o → Leaves stacks last →
    Stays stacks depths (finally_in o last)
stays_last stacks depths (Goes a s) last h next = (leaves_seq next (leaves_give a)).at depths s h
stays_last {A} stacks depths (Throws f s) last h next = let k : Leaves {A = A} stacks (last >> throw f) = leaves_seq next (leaves_throw f) in k.at depths s h
stays_last stacks depths (Spent s) last h next = h

pub leaves_finally : {S A : Type 0} {stacks : S → Stacks} {f : Step S A} {last : Step S (Unit {0})} → Leaves stacks f → Leaves stacks last
    → Leaves stacks (finally f last)
leaves_finally {stacks} {f} {last} h next = record { at = λ depths s d. stays_last stacks depths (f s) last (h.at depths s d) next }

stays_answered : {S A : Type 0} (stacks : S → Stacks) (depths : ℕ → ℕ) (o : Outcome S A) → Stays stacks depths o → Stays stacks depths (attempt_in o)
stays_answered stacks depths (Goes a s) h = h
stays_answered stacks depths (Throws f s) h = h
stays_answered stacks depths (Spent s) h = h

pub leaves_attempt : {S A : Type 0} {stacks : S → Stacks} {f : Step S A} → Leaves stacks f → Leaves stacks (attempt f)
leaves_attempt {stacks} {f} h = record { at = λ depths s d. stays_answered stacks depths (f s) (h.at depths s d) }

-- fuel that is spent

pub leaves_spend_of_page : Leaves of_page page.spend
leaves_spend_of_page = record { at = λ depths w. go depths w w.fuel }
  where
    go : (depths : ℕ → ℕ) (w : Work) (n : ℕ) → AreDeep depths (of_page w) → Stays of_page depths (page.spend_from n w)
    go depths w zero h = tt
    go depths w (suc n) h = h

pub leaves_spend : Leaves of_session spend
leaves_spend = record { at = λ depths s. go depths s s.fuel }
  where
    go : (depths : ℕ → ℕ) (s : State) (n : ℕ) → AreDeep depths (of_session s) → Stays of_session depths (spend_from n s)
    go depths s zero h = tt
    go depths s (suc n) h = h

-- steps of a session alone

-- a primitive on the page
stays_on_page : {A : Type 0} (depths : ℕ → ℕ) (o : Outcome Work A) (s : State) → Stays of_page depths o → Stays of_session depths (with_outcome o s)
stays_on_page depths (Goes a w) s h = h
stays_on_page depths (Throws f w) s h = h
stays_on_page depths (Spent w) s h = h

pub leaves_on_page : {A : Type 0} {f : Step Work A} → Leaves of_page f → Leaves of_session (on_page f)
leaves_on_page {f} h = record { at = λ depths s d. stays_on_page depths (f (work_of s)) s (h.at depths (work_of s) d) }

-- what is found in a view
pub leaves_look : {A : Type 0} (this : Option ℕ) (find : View → Result A Fault) → Leaves of_session (look this find)
leaves_look {A} this find = record { at = λ depths s. go depths s (find (view this s)) }
  where
    go : (depths : ℕ → ℕ) (s : State) (r : Result A Fault) → AreDeep depths (of_session s) → Stays of_session depths (settle r s)
    go depths s (Ok a) h = h
    go depths s (Err f) h = h

-- what the proofs by `search` cite
pub ruleset leaves_steps = (
  leaves_bind,
  leaves_seq,
  leaves_goes,
  leaves_throw,
  leaves_when,
  leaves_throw_if,
  leaves_throw_any,
  leaves_found,
  leaves_if,
  leaves_each,
  leaves_catch,
  leaves_finally,
  leaves_attempt,
  leaves_spend_of_page,
  leaves_spend,
  leaves_on_page,
  leaves_look,
  refl,
)
