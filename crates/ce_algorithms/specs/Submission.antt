-- Submitting forms (HTML Standard, sections "The form element", "Form submission algorithm", "The button element"). What is sent is logged.
use Rattle.std.specs.Prelude.{ℕ, Bool, true, false, if◌then◌else◌, Option, Some, None}
use Rattle.element_names.specs.declared.input_kinds.InputKind.{InputKind}
use Rattle.element_names.specs.declared.input_kinds.InputKind.TheVariants.{Submit, Reset}
use Rattle.form_controls.specs.Kinds.{is_kind, kind_of}
use Rattle.form_submission.specs.declared.plan.Plan.{Plan}
use Rattle.form_submission.specs.declared.plan.Plan.TheVariants.{Get, Post, Blocked}
use Rattle.form_submission.specs.declared.plan.Why.{Why}
use Rattle.form_submission.specs.declared.plan.Why.TheVariants as whys
use Rattle.form_submission.specs.declared.site.Site.{Site}
use Rattle.form_submission.specs.Plans as plans
use Rattle.form_submission.specs.Requests.{request_fit}
use Rattle.ce_events.specs.declared.event.Cause.{Cause}
use Rattle.ce_events.specs.declared.event.Cause.TheVariants.{Disconnected, Invalid, Dialog, Url, Scheme, Size, Boundary}
use Rattle.ce_events.specs.declared.event.Event.{Event}
use Rattle.ce_events.specs.declared.event.Event.TheVariants.{SubmitGet, SubmitPost, SubmitBlocked}
use Rattle.ce_algorithms.specs.declared.deed.SubmitDeed.{SubmitDeed}
use Rattle.ce_algorithms.specs.declared.deed.SubmitDeed.TheVariants as submit_deeds
use Rattle.ce_algorithms.specs.declared.given.Given.{Given}
use Rattle.ce_algorithms.specs.declared.given.Given.TheVariants.{Nothing}
use Rattle.ce_algorithms.specs.Steps.{Step, ◌>>=◌, ◌>>◌, give, done, read, refuse}
use Rattle.ce_algorithms.specs.Page.{Page}
use Rattle.ce_algorithms.specs.Forms.{forms_of, form_owner, is_disabled}
use Rattle.ce_algorithms.specs.Controls.{ignored_or}
use Rattle.ce_algorithms.specs.Reset.{reset_form}
use Rattle.ce_algorithms.specs.State.{State, log, on_page, read_page}

-- what a submission sends, of the page as it is at this moment, or what blocks it
abbrev pub plan : Page → Site → ℕ → Option ℕ → Bool → Plan
plan p site form submitter by_call = plans.plan (forms_of p) p.controls p.internals site.url site.boundary form submitter by_call

-- as an event

abbrev pub cause : Why → Cause
cause whys.Disconnected = Disconnected
cause (whys.Invalid ns) = Invalid ns
cause whys.Dialog = Dialog
cause whys.Url = Url
cause whys.Scheme = Scheme
cause whys.Size = Size
cause whys.Boundary = Boundary

abbrev pub submitted : ℕ → Plan → Event
submitted form (Get url) = SubmitGet form url
submitted form (Post url media body) = SubmitPost form url media body
submitted form (Blocked why) = SubmitBlocked form (cause why)

-- "submit" a form, by a call of `submit` or not
abbrev pub submit : ℕ → Option ℕ → Bool → Step State (Unit {0})
submit form submitter by_call = do
  sent ← read (λ s. plan s.page s.site form submitter by_call)
  log (submitted form sent)

-- `requestSubmit`
abbrev pub request : ℕ → Option ℕ → Step State (Unit {0})
request form submitter = do
  refuse (λ s. request_fit (forms_of s.page) form submitter)
  submit form submitter false

-- "activation behavior" of a button: one that submits submits its form owner, one that resets resets it
abbrev pub act_on : ℕ → ℕ → Option InputKind → Step State (Unit {0})
act_on button form kind =
    if is_kind Submit kind then submit form (Some button) false
    else if is_kind Reset kind then on_page (reset_form form)
    else done

abbrev pub activate_in : ℕ → Option ℕ → Step State (Unit {0})
activate_in button None = done
activate_in button (Some form) = do
  kind ← read_page (λ p. kind_of p.forest button)
  act_on button form kind

abbrev pub activate : ℕ → Step State (Unit {0})
activate button = do
  owner ← read_page (λ p. form_owner p button)
  activate_in button owner

-- the user presses a button; a disabled one ignores it
abbrev pub press : ℕ → Step State Given
press button = do
  ignored ← read_page (λ p. is_disabled p button)
  ignored_or ignored (activate button)

-- the steps of what submits a form
abbrev pub submit_steps : SubmitDeed → Step State Given
submit_steps (submit_deeds.Submit form) = do
  submit form None true
  give Nothing
submit_steps (submit_deeds.Request form submitter) = do
  request form submitter
  give Nothing
submit_steps (submit_deeds.Press button) = press button
