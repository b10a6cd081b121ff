-- What is sent by a method to a URL of the web.
use Rattle.std.specs.Prelude.{ℕ, List, Option}
use Rattle.ce_base.specs.declared.entries.Entry.{Entry}
use Rattle.url.specs.Parts.{Parts}
use Rattle.form_submission.specs.declared.plan.Plan.{Plan}
use Rattle.form_submission.specs.declared.plan.Plan.TheVariants.{Blocked}
use Rattle.form_submission.specs.declared.plan.Why.TheVariants as why
use Rattle.form_submission.specs.Attributes as meant
use Rattle.form_controls.specs.declared.control.Control.{Control}
use Rattle.form_controls.specs.declared.internals.Internals.{Internals}
use Rattle.form_controls.specs.Owners.{Forms}
use Rattle.form_submission.specs.EntryList.{entry_list}
use Rattle.form_submission.specs.Plans.{action_url, get, post, send_by}
use Rattle.submit_plan.specs.declared.attributes.Method.{Method}
use Rattle.submit_plan.specs.declared.attributes.Method.TheVariants.{Get, Post, Dialog}

abbrev pub sent : meant.Method → meant.Encoding → List ℕ → List Entry → Parts → Plan
sent meant.GetMethod encoding boundary entries url = get entries url
sent meant.PostMethod encoding boundary entries url = post boundary encoding entries url
sent meant.DialogMethod encoding boundary entries url = Blocked why.Dialog

-- a dialog sends nothing
abbrev pub IsSent : Method → Type 0
IsSent Get = Unit {0}
IsSent Post = Unit {0}
IsSent Dialog = ⊥

-- what a form that nothing hinders sends, or what blocks it from its method on
abbrev pub sent_by : Forms → List Control → List (Option Internals) → List ℕ → List ℕ → ℕ → Option ℕ → Plan
sent_by f controls internals page boundary form submitter =
    send_by (meant.method_of f.forest form submitter) (meant.encoding_of f.forest form submitter) boundary
    (entry_list f controls internals form submitter) (action_url page (meant.action_of f.forest form submitter))
