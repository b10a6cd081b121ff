-- What submits a form keeps the law, and gives no node.
use Rattle.std.proofs.Common.{ℕ, Bool, true, false, List, Option, Some, None, refl}
use Rattle.std.specs.Prelude.{if◌then◌else◌}
use Rattle.ce_base.specs.declared.fault.Fault.{Fault}
use Rattle.element_names.specs.declared.input_kinds.InputKind.{InputKind}
use Rattle.element_names.specs.declared.input_kinds.InputKind.TheVariants.{Submit, Reset}
use Rattle.form_controls.specs.Kinds.{is_kind, kind_of}
use Rattle.form_submission.specs.declared.plan.Plan.{Plan}
use Rattle.form_submission.specs.Requests.{request_fit}
use Rattle.form_submission.specs.declared.plan.Plan.TheVariants.{Get, Post, Blocked}
use Rattle.ce_events.specs.declared.event.Event.TheVariants.{SubmitGet, SubmitPost, SubmitBlocked}
use Rattle.ce_algorithms.specs.declared.deed.SubmitDeed.{SubmitDeed}
use Rattle.ce_algorithms.specs.declared.deed.SubmitDeed.TheVariants as submit_deeds
use Rattle.ce_algorithms.specs.declared.given.Given.TheVariants.{Nothing, Ignored}
use Rattle.ce_algorithms.specs.Steps.{Step, throw_any}
use Rattle.ce_algorithms.specs.Page.{Page}
use Rattle.ce_algorithms.specs.Forms.{forms_of, form_owner, is_disabled}
use Rattle.ce_algorithms.specs.State.{State, on_page}
use Rattle.ce_algorithms.specs.Reset.{reset_form}
use Rattle.ce_algorithms.specs.Controls.{ignored_or}
use Rattle.ce_algorithms.specs.Submission.{cause, plan, submitted, submit, request, act_on, activate_in, activate, submit_steps}
use Rattle.order_law.proofs.Model.Invariant.{Hold}
use Rattle.order_law.proofs.Model.Reading.{line_tests}
use Rattle.order_law.proofs.Model.Lines.{Plain}
use Rattle.order_law.proofs.Model.Steps.{Keeps, keeps_bind, keeps_seq, keeps_throw}
use Rattle.order_law.proofs.Model.Giving.{none, given_nodes, Gives, gives_after, gives_seq, gives_give, gives_keeps, gives_page}
use Rattle.order_law.proofs.Model.PageDeeds.{reset_gives}
use Rattle.order_law.proofs.Model.Bodies.{keeps_done, keeps_plain, keeps_read, keeps_read_page}

submitted_plain : (form : ℕ) (sent : Plan) → Plain (submitted form sent)
submitted_plain form (Get url) = record { at = λ b o d. line_tests b (SubmitGet form url) refl o d refl refl refl; is = λ b. refl }
submitted_plain form (Post url media body) = record { at = λ b o d. line_tests b (SubmitPost form url media body) refl o d refl refl refl; is = λ b. refl }
submitted_plain form (Blocked why) = record { at = λ b o d. line_tests b (SubmitBlocked form (cause why)) refl o d refl refl refl; is = λ b. refl }

keeps_submit : {h : List Hold} (form : ℕ) (submitter : Option ℕ) (by_call : Bool) → Keeps h (submit form submitter by_call)
keeps_submit form submitter by_call =
    keeps_bind (keeps_read (λ (s : State). plan s.page s.site form submitter by_call)) (λ sent. keeps_plain (submitted form sent) (submitted_plain form sent))

keeps_any : {h : List Hold} (o : Option Fault) → Keeps h (throw_any o)
keeps_any None = keeps_done
keeps_any (Some f) = keeps_throw f

keeps_request : {h : List Hold} (form : ℕ) (submitter : Option ℕ) → Keeps h (request form submitter)
keeps_request form submitter =
    keeps_seq (keeps_bind (keeps_read (λ (s : State). request_fit (forms_of s.page) form submitter)) keeps_any) (keeps_submit form submitter false)

keeps_reset : {h : List Hold} (form : ℕ) → Keeps h (on_page (reset_form form))
keeps_reset form = gives_keeps {nodes = none} (gives_page (λ vs l. reset_gives form))

keeps_if : {h : List Hold} {f g : Step State (Unit {0})} (t : Bool) → Keeps h f → Keeps h g → Keeps h (if t then f else g)
keeps_if true x y = x
keeps_if false x y = y

keeps_act_on : {h : List Hold} (button form : ℕ) (kind : Option InputKind) → Keeps h (act_on button form kind)
keeps_act_on button form kind =
    keeps_if (is_kind Submit kind) (keeps_submit form (Some button) false) (keeps_if (is_kind Reset kind) (keeps_reset form) keeps_done)

keeps_activate_in : {h : List Hold} (button : ℕ) (owner : Option ℕ) → Keeps h (activate_in button owner)
keeps_activate_in button None = keeps_done
keeps_activate_in button (Some form) = keeps_bind (keeps_read_page (λ (p : Page). kind_of p.forest button)) (keeps_act_on button form)

keeps_activate : {h : List Hold} (button : ℕ) → Keeps h (activate button)
keeps_activate button = keeps_bind (keeps_read_page (λ (p : Page). form_owner p button)) (keeps_activate_in button)

ignored_gives : {h : List Hold} {f : Step State (Unit {0})} (t : Bool) → Keeps h f → Gives given_nodes h (ignored_or t f)
ignored_gives true x = gives_give Ignored tt
ignored_gives false x = gives_seq x (gives_give Nothing tt)

pub submit_gives : {h : List Hold} (what : SubmitDeed) → Gives given_nodes h (submit_steps what)
submit_gives (submit_deeds.Submit form) = gives_seq (keeps_submit form None true) (gives_give Nothing tt)
submit_gives (submit_deeds.Request form submitter) = gives_seq (keeps_request form submitter) (gives_give Nothing tt)
submit_gives (submit_deeds.Press button) =
    gives_after (keeps_read_page (λ (p : Page). is_disabled p button)) (λ ignored. ignored_gives ignored (keeps_activate button))
