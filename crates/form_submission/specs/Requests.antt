-- Whether a button may submit a form (HTML Standard, section "The form element", `requestSubmit`).
use Rattle.std.specs.Prelude.{ℕ, not, if◌then◌else◌, Option, Some, None}
use Rattle.ce_base.specs.declared.fault.Fault.{Fault}
use Rattle.ce_base.specs.declared.fault.Fault.TheVariants.{TypeError, NotFoundError}
use Rattle.form_controls.specs.Kinds.{is_submit_button}
use Rattle.form_controls.specs.Owners.{Forms, is_owned_by}

-- the fault of the first test that fails, or none: the submitter, where one is given, is a submit button, and its form owner is the form
abbrev pub request_fit : Forms → ℕ → Option ℕ → Option Fault
request_fit f form None = None
request_fit f form (Some submitter) =
    if not (is_submit_button f.forest submitter) then Some TypeError
    else if not (is_owned_by f form submitter) then Some NotFoundError
    else None
