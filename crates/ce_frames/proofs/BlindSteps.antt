-- Steps that read nothing of what classes do and remember. One lemma for each way to make a step.
use Rattle.std.proofs.Common.{◌≡◌, ℕ, Bool, true, false, List, [], ◌∷◌, length, Option, Some, None, Result, Ok, Err, refl, ap, ◌∙◌, length-set}
use Rattle.std.specs.Prelude.{if◌then◌else◌, ok_or}
use Rattle.ce_base.specs.declared.fault.Fault.{Fault}
use Rattle.ce_base.specs.declared.fault.Fault.TheVariants.{TypeError}
use Rattle.rule_lines.specs.declared.line.Cmd.{Cmd}
use Rattle.rule_lines.specs.declared.op.Op.{Op}
use Rattle.rule_lines.specs.declared.op.Op.TheVariants as ops
use Rattle.ce_registry.specs.declared.class_facts.ClassFacts.{ClassFacts}
use Rattle.ce_events.specs.declared.event.Event.{Event}
use Rattle.element_names.specs.declared.input_kinds.InputKind.{InputKind}
use Rattle.element_names.specs.declared.input_kinds.InputKind.TheVariants.{Submit, Reset}
use Rattle.form_controls.specs.Kinds.{is_kind, kind_of}
use Rattle.form_submission.specs.Requests.{request_fit}
use Rattle.ce_algorithms.specs.declared.deed.SubmitDeed.{SubmitDeed}
use Rattle.ce_algorithms.specs.declared.deed.SubmitDeed.TheVariants as submit_deeds
use Rattle.ce_algorithms.specs.declared.deed.Deed.{Deed}
use Rattle.ce_algorithms.specs.declared.deed.Deed.TheVariants as deeds
use Rattle.ce_algorithms.specs.Steps.{Step, Outcome, Goes, Throws, Spent, then_do, ◌>>=◌, ◌>>◌, give, done, throw, settle, read, throw_any, throw_if, found}
use Rattle.ce_algorithms.specs.Steps.{find_or, throw_where, for_each, attempt, attempt_in}
use Rattle.ce_algorithms.specs.Page.{Page, Work}
use Rattle.ce_algorithms.specs.State.{State, Class, view, log, read_page, change_page, on_page, with_outcome, work_of, set_variable, change_class, class_of}
use Rattle.ce_algorithms.specs.Forms.{forms_of, form_owner, is_disabled}
use Rattle.ce_algorithms.specs.Define.{define_name}
use Rattle.ce_algorithms.specs.Calls.{Again}
use Rattle.ce_algorithms.specs.Deeds.{resolve, resolve_user, IsStill}
use Rattle.ce_algorithms.specs.Operands.{◌>>=◌ as then_resolve}
use Rattle.ce_algorithms.specs.Drain.{open_queue, pop_queue}
use Rattle.ce_algorithms.specs.Controls.{control_steps, ignored_or}
use Rattle.ce_algorithms.specs.Reset.{reset_form}
use Rattle.ce_algorithms.specs.Submission.{plan, submitted, submit, request, act_on, activate_in, submit_steps}
use Rattle.ce_algorithms.specs.Perform.{define_element, gives_nothing, form_steps, internals_steps, page_steps, steps}
use Rattle.ce_frames.specs.Places.{Behaviour}
use Rattle.ce_frames.specs.Whole.{joined_class, whole, whole_in, state_in, IsBlind}
use Rattle.ce_frames.proofs.Wholes.{named_joined, class_facts_joined, set_joined}

-- steps that touch no class

pub blind_give : {A : Type 0} (a : A) → IsBlind (give a)
blind_give a = record { same = λ bs s. refl; classes = λ s. refl }

pub blind_done : IsBlind done
blind_done = record { same = λ bs s. refl; classes = λ s. refl }

pub blind_throw : {A : Type 0} (f : Fault) → IsBlind {A = A} (throw f)
blind_throw f = record { same = λ bs s. refl; classes = λ s. refl }

pub blind_settle : {A : Type 0} (r : Result A Fault) → IsBlind (settle r)
blind_settle (Ok a) = blind_give a
blind_settle (Err f) = blind_throw f

pub blind_read_page : {A : Type 0} (f : Page → A) → IsBlind (read_page f)
blind_read_page f = record { same = λ bs s. refl; classes = λ s. refl }

pub blind_change_page : (f : Page → Page) → IsBlind (change_page f)
blind_change_page f = record { same = λ bs s. refl; classes = λ s. refl }

pub blind_set_variable : (v : List ℕ) (n : ℕ) → IsBlind (set_variable v n)
blind_set_variable v n = record { same = λ bs s. refl; classes = λ s. refl }

pub blind_log : (e : Event) → IsBlind (log e)
blind_log e = record { same = λ bs s. refl; classes = λ s. refl }

outcome_whole : {A : Type 0} (bs : List Behaviour) (o : Outcome Work A) (s : State) → with_outcome o (whole bs s) ≡ whole_in bs (with_outcome o s)
outcome_whole bs (Goes a w) s = refl
outcome_whole bs (Throws f w) s = refl
outcome_whole bs (Spent w) s = refl

outcome_classes : {A : Type 0} (o : Outcome Work A) (s : State) → length (state_in (with_outcome o s)).classes ≡ length s.classes
outcome_classes (Goes a w) s = refl
outcome_classes (Throws f w) s = refl
outcome_classes (Spent w) s = refl

-- a primitive of the page
pub blind_on_page : {A : Type 0} (f : Step Work A) → IsBlind (on_page f)
blind_on_page f = record { same = λ bs s. outcome_whole bs (f (work_of s)) s; classes = λ s. outcome_classes (f (work_of s)) s }

-- steps that read or change classes, and nothing of what they do or remember

pub blind_read : {A : Type 0} (f : State → A) → ((bs : List Behaviour) (s : State) → f (whole bs s) ≡ f s) → IsBlind (read f)
blind_read f h = record { same = λ bs s. ap (λ a. Goes a (whole bs s)) (h bs s); classes = λ s. refl }

pub blind_change_class : (k : ℕ) (f : Class → Class) → ((c : Class) (b : Behaviour) → f (joined_class c b) ≡ joined_class (f c) b)
    → IsBlind (change_class k f)
blind_change_class k f h =
    record {
      same = λ bs s. ap (λ l. Goes tt (record s { classes = l })) (set_joined s.classes bs k f h);
      classes = λ s. length-set s.classes k (f (class_of s k));
    }

-- steps one after another

then_whole : {A B : Type 0} {k : A → Step State B} (bs : List Behaviour) (o : Outcome State A) → ((a : A) → IsBlind (k a))
    → then_do (whole_in bs o) k ≡ whole_in bs (then_do o k)
then_whole bs (Goes a s) next = (next a).same bs s
then_whole bs (Throws f s) next = refl
then_whole bs (Spent s) next = refl

then_classes : {A B : Type 0} {k : A → Step State B} (o : Outcome State A) → ((a : A) → IsBlind (k a))
    → length (state_in (then_do o k)).classes ≡ length (state_in o).classes
then_classes (Goes a s) next = (next a).classes s
then_classes (Throws f s) next = refl
then_classes (Spent s) next = refl

pub blind_bind : {A B : Type 0} {f : Step State A} {k : A → Step State B} → IsBlind f → ((a : A) → IsBlind (k a)) → IsBlind (f >>= k)
blind_bind {f} {k} h next =
    record {
      same = λ bs s. ap (λ o. then_do o k) (h.same bs s) ∙ then_whole bs (f s) next;
      classes = λ s. then_classes (f s) next ∙ h.classes s;
    }

pub blind_seq : {A B : Type 0} {f : Step State A} {g : Step State B} → IsBlind f → IsBlind g → IsBlind (f >> g)
blind_seq {f} {g} h next =
    record {
      same = λ bs s. ap (λ o. then_do o (λ _. g)) (h.same bs s) ∙ then_whole bs (f s) (λ _. next);
      classes = λ s. then_classes (f s) (λ _. next) ∙ h.classes s;
    }

pub blind_each : {A : Type 0} {f : A → Step State (Unit {0})} (xs : List A) → ((a : A) → IsBlind (f a)) → IsBlind (for_each xs f)
blind_each [] h = blind_done
blind_each (x ∷ xs) h = blind_seq (h x) (blind_each xs h)

-- steps by a test

pub blind_throw_if : (t : Bool) (f : Fault) → IsBlind (throw_if t f)
blind_throw_if true f = blind_throw f
blind_throw_if false f = blind_done

pub blind_found : {A : Type 0} (o : Option A) (f : Fault) → IsBlind (found o f)
blind_found None f = blind_throw f
blind_found (Some a) f = blind_give a

pub blind_find_or : {A : Type 0} (what : State → Option A) (f : Fault) → ((bs : List Behaviour) (s : State) → what (whole bs s) ≡ what s)
    → IsBlind (find_or what f)
blind_find_or what f h = blind_bind (blind_read what h) (λ o. blind_found o f)

pub blind_throw_where : (test : State → Bool) (f : Fault) → ((bs : List Behaviour) (s : State) → test (whole bs s) ≡ test s)
    → IsBlind (throw_where test f)
blind_throw_where test f h = blind_bind (blind_read test h) (λ t. blind_throw_if t f)

-- faults

attempt_whole : {A : Type 0} (bs : List Behaviour) (o : Outcome State A) → attempt_in (whole_in bs o) ≡ whole_in bs (attempt_in o)
attempt_whole bs (Goes a s) = refl
attempt_whole bs (Throws f s) = refl
attempt_whole bs (Spent s) = refl

attempt_classes : {A : Type 0} (o : Outcome State A) → length (state_in (attempt_in o)).classes ≡ length (state_in o).classes
attempt_classes (Goes a s) = refl
attempt_classes (Throws f s) = refl
attempt_classes (Spent s) = refl

pub blind_attempt : {A : Type 0} {f : Step State A} → IsBlind f → IsBlind (attempt f)
blind_attempt {f} h =
    record {
      same = λ bs s. ap attempt_in (h.same bs s) ∙ attempt_whole bs (f s);
      classes = λ s. attempt_classes (f s) ∙ h.classes s;
    }

-- what the proofs by `search` cite
pub ruleset blind_steps =
    (blind_give, blind_throw, blind_read_page, blind_change_page, blind_log, blind_on_page, blind_bind, blind_seq, blind_each, blind_throw_where, refl)

-- element queues

pub blind_open_queue : IsBlind open_queue
blind_open_queue = search (blind_steps) depth 12

pub blind_pop_queue : IsBlind pop_queue
blind_pop_queue = search (blind_steps) depth 12

-- operations

-- operands are nodes and names; of a class only its name is read
pub resolve_blind : (this : Option ℕ) (op : Op) (bs : List Behaviour) (s : State) → resolve (view this (whole bs s)) op ≡ resolve (view this s) op
resolve_blind this (ops.New var name) bs s = ap (λ k. then_resolve (ok_or k TypeError) (λ k. Ok (deeds.New k))) (named_joined s.classes bs name)
resolve_blind this (ops.Define name class_name base) bs s =
    ap (λ k. then_resolve (ok_or k TypeError) (λ k. Ok (deeds.Define name k base))) (named_joined s.classes bs class_name)
resolve_blind this op bs s = refl

pub resolve_user_blind : (c : Cmd) (bs : List Behaviour) (s : State) → resolve_user (view None (whole bs s)) c ≡ resolve_user (view None s) c
resolve_user_blind c bs s = refl

blind_gives : {f : Step State (Unit {0})} → IsBlind f → IsBlind (gives_nothing f)
blind_gives h = blind_seq h (blind_give _)

-- a definition reads what is known of its class, and freezes it
defines_blind : (name : List ℕ) (k : ℕ) (base : Option (List ℕ)) (facts : ClassFacts)
    → IsBlind (on_page (define_name name k facts base) >> change_class k (λ c. record c { frozen = true }))
defines_blind name k base facts =
    blind_seq (blind_on_page (define_name name k facts base)) (blind_change_class k (λ c. record c { frozen = true }) (λ c b. refl))

pub define_blind : (name : List ℕ) (k : ℕ) (base : Option (List ℕ)) → IsBlind (define_element name k base)
define_blind name k base =
    record {
      same = λ bs s.
          ap (λ x. (on_page (define_name name k x base) >> change_class k (λ c. record c { frozen = true })) (whole bs s)) (class_facts_joined s bs k)
          ∙ (defines_blind name k base (class_of s k).facts).same bs s;
      classes = λ s. (defines_blind name k base (class_of s k).facts).classes s;
    }

-- what submits a form

blind_ignored_or : {f : Step State (Unit {0})} (t : Bool) → IsBlind f → IsBlind (ignored_or t f)
blind_ignored_or true h = blind_give _
blind_ignored_or false h = blind_gives h

blind_if : {f g : Step State (Unit {0})} (t : Bool) → IsBlind f → IsBlind g → IsBlind (if t then f else g)
blind_if true h k = h
blind_if false h k = k

blind_throw_any : (o : Option Fault) → IsBlind (throw_any o)
blind_throw_any None = blind_done
blind_throw_any (Some f) = blind_throw f

blind_submit : (form : ℕ) (submitter : Option ℕ) (by_call : Bool) → IsBlind (submit form submitter by_call)
blind_submit form submitter by_call =
    blind_bind (blind_read (λ (s : State). plan s.page s.site form submitter by_call) (λ bs s. refl)) (λ sent. blind_log (submitted form sent))

blind_request : (form : ℕ) (submitter : Option ℕ) → IsBlind (request form submitter)
blind_request form submitter =
    blind_seq (blind_bind (blind_read (λ (s : State). request_fit (forms_of s.page) form submitter) (λ bs s. refl)) blind_throw_any)
    (blind_submit form submitter false)

blind_act_on : (button form : ℕ) (kind : Option InputKind) → IsBlind (act_on button form kind)
blind_act_on button form kind =
    blind_if (is_kind Submit kind) (blind_submit form (Some button) false) (blind_if (is_kind Reset kind) (blind_on_page (reset_form form)) blind_done)

blind_activate_in : (button : ℕ) (owner : Option ℕ) → IsBlind (activate_in button owner)
blind_activate_in button None = blind_done
blind_activate_in button (Some form) = blind_bind (blind_read_page (λ (p : Page). kind_of p.forest button)) (blind_act_on button form)

blind_submit_steps : (what : SubmitDeed) → IsBlind (submit_steps what)
blind_submit_steps (submit_deeds.Submit form) = blind_gives (blind_submit form None true)
blind_submit_steps (submit_deeds.Request form submitter) = blind_gives (blind_request form submitter)
blind_submit_steps (submit_deeds.Press button) =
    blind_bind (blind_read_page (λ (p : Page). is_disabled p button))
    (λ ignored. blind_ignored_or ignored (blind_bind (blind_read_page (λ (p : Page). form_owner p button)) (blind_activate_in button)))

-- the steps of a deed that constructs no class
pub still_blind : (again : Again) (deed : Deed) → IsStill deed → IsBlind (steps again deed)
still_blind again (deeds.Create local is document) still = absurd still
still_blind again (deeds.New class) still = absurd still
still_blind again (deeds.Define name class base) still = blind_gives (define_blind name class base)
still_blind again (deeds.OnPage what) still = blind_on_page (page_steps what)
still_blind again (deeds.OnControls what) still = blind_on_page (control_steps what)
still_blind again (deeds.OnInternals what) still = blind_on_page (internals_steps what)
still_blind again (deeds.OnForms what) still = blind_on_page (form_steps what)
still_blind again (deeds.Submits what) still = blind_submit_steps what
still_blind again (deeds.Ask word n name) still = blind_read _ (λ bs s. refl)
still_blind again (deeds.Let var n) still = blind_gives (blind_set_variable var n)
