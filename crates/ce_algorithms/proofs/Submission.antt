-- What submits a form reads no log, and calls nothing again.
use Rattle.std.proofs.Common.{ℕ, Bool, true, false, Option, Some, None, refl}
use Rattle.ce_base.specs.declared.fault.Fault.{Fault}
use Rattle.element_names.specs.declared.input_kinds.InputKind.{InputKind}
use Rattle.element_names.specs.declared.input_kinds.InputKind.TheVariants.{Submit, Reset}
use Rattle.form_controls.specs.Kinds.{is_kind, kind_of}
use Rattle.form_submission.specs.Requests.{request_fit}
use Rattle.ce_algorithms.specs.declared.deed.SubmitDeed.{SubmitDeed}
use Rattle.ce_algorithms.specs.declared.deed.SubmitDeed.TheVariants as submit_deeds
use Rattle.ce_algorithms.specs.declared.given.Given.TheVariants.{Nothing, Ignored}
use Rattle.ce_algorithms.specs.Steps.{Step, throw_any}
use Rattle.ce_algorithms.specs.Page.{Page}
use Rattle.ce_algorithms.specs.Forms.{forms_of, form_owner, is_disabled}
use Rattle.ce_algorithms.specs.State.{State}
use Rattle.ce_algorithms.specs.Controls.{ignored_or}
use Rattle.ce_algorithms.specs.Reset.{reset_form}
use Rattle.ce_algorithms.specs.Submission.{plan, submitted, submit, request, act_on, activate_in, press, submit_steps}
use Rattle.ce_algorithms.proofs.Framed.{Framed, framed_bind, framed_seq, framed_give, framed_done, framed_throw, framed_read, framed_read_page, framed_log}
use Rattle.ce_algorithms.proofs.Framed.{framed_on_page, framed_if}
use Rattle.ce_algorithms.proofs.Low.{Lower, lower}
use Rattle.ce_algorithms.proofs.PageSteps.{keeps_reset_form}
use Rattle.ce_algorithms.proofs.Tied.{Tied, tied_bind, tied_seq, tied_give, tied_done, tied_throw, tied_read, tied_read_page, tied_log, tied_page, tied_if}

-- the log is not read

framed_ignored_or : {f : Step State (Unit {0})} (t : Bool) → Framed f → Framed (ignored_or t f)
framed_ignored_or true h = framed_give Ignored
framed_ignored_or false h = framed_seq h (framed_give Nothing)

framed_throw_any : (o : Option Fault) → Framed (throw_any o)
framed_throw_any None = framed_done
framed_throw_any (Some f) = framed_throw f

framed_submit : (form : ℕ) (submitter : Option ℕ) (by_call : Bool) → Framed (submit form submitter by_call)
framed_submit form submitter by_call =
    framed_bind (framed_read (λ (s : State). plan s.page s.site form submitter by_call) (λ events s. refl)) (λ sent. framed_log (submitted form sent))

framed_request : (form : ℕ) (submitter : Option ℕ) → Framed (request form submitter)
framed_request form submitter =
    framed_seq (framed_bind (framed_read (λ (s : State). request_fit (forms_of s.page) form submitter) (λ events s. refl)) framed_throw_any)
    (framed_submit form submitter false)

framed_act_on : (button form : ℕ) (kind : Option InputKind) → Framed (act_on button form kind)
framed_act_on button form kind =
    framed_if (is_kind Submit kind) (framed_submit form (Some button) false) (framed_if (is_kind Reset kind) (framed_on_page (reset_form form)) framed_done)

framed_activate_in : (button : ℕ) (owner : Option ℕ) → Framed (activate_in button owner)
framed_activate_in button None = framed_done
framed_activate_in button (Some form) = framed_bind (framed_read_page (λ (p : Page). kind_of p.forest button)) (framed_act_on button form)

framed_press : (button : ℕ) → Framed (press button)
framed_press button =
    framed_bind (framed_read_page (λ (p : Page). is_disabled p button))
    (λ ignored. framed_ignored_or ignored (framed_bind (framed_read_page (λ (p : Page). form_owner p button)) (framed_activate_in button)))

pub framed_submit_steps : (what : SubmitDeed) → Framed (submit_steps what)
framed_submit_steps (submit_deeds.Submit form) = framed_seq (framed_submit form None true) (framed_give Nothing)
framed_submit_steps (submit_deeds.Request form submitter) = framed_seq (framed_request form submitter) (framed_give Nothing)
framed_submit_steps (submit_deeds.Press button) = framed_press button

-- nothing is called again

tied_ignored_or : {b : ℕ} {f : Step State (Unit {0})} (t : Bool) → Tied b f f → Tied b (ignored_or t f) (ignored_or t f)
tied_ignored_or true h = tied_give Ignored
tied_ignored_or false h = tied_seq h (tied_give Nothing)

tied_throw_any : {b : ℕ} (o : Option Fault) → Tied b (throw_any o) (throw_any o)
tied_throw_any None = tied_done
tied_throw_any (Some f) = tied_throw f

tied_submit : {b : ℕ} (form : ℕ) (submitter : Option ℕ) (by_call : Bool) → Tied b (submit form submitter by_call) (submit form submitter by_call)
tied_submit form submitter by_call = tied_bind (tied_read (λ (s : State). plan s.page s.site form submitter by_call)) (λ sent. tied_log (submitted form sent))

tied_request : {b : ℕ} (form : ℕ) (submitter : Option ℕ) → Tied b (request form submitter) (request form submitter)
tied_request form submitter = tied_seq (tied_bind (tied_read (λ (s : State). request_fit (forms_of s.page) form submitter)) tied_throw_any)
    (tied_submit form submitter false)

tied_act_on : {b : ℕ} (button form : ℕ) (kind : Option InputKind) → Tied b (act_on button form kind) (act_on button form kind)
tied_act_on button form kind =
    tied_if (is_kind Submit kind) (tied_submit form (Some button) false)
    (tied_if (is_kind Reset kind) (tied_page (keeps_reset_form Lower lower form)) tied_done)

tied_activate_in : {b : ℕ} (button : ℕ) (owner : Option ℕ) → Tied b (activate_in button owner) (activate_in button owner)
tied_activate_in button None = tied_done
tied_activate_in button (Some form) = tied_bind (tied_read_page (λ (p : Page). kind_of p.forest button)) (tied_act_on button form)

tied_press : {b : ℕ} (button : ℕ) → Tied b (press button) (press button)
tied_press button =
    tied_bind (tied_read_page (λ (p : Page). is_disabled p button))
    (λ ignored. tied_ignored_or ignored (tied_bind (tied_read_page (λ (p : Page). form_owner p button)) (tied_activate_in button)))

pub tied_submit_steps : {b : ℕ} (what : SubmitDeed) → Tied b (submit_steps what) (submit_steps what)
tied_submit_steps (submit_deeds.Submit form) = tied_seq (tied_submit form None true) (tied_give Nothing)
tied_submit_steps (submit_deeds.Request form submitter) = tied_seq (tied_request form submitter) (tied_give Nothing)
tied_submit_steps (submit_deeds.Press button) = tied_press button
