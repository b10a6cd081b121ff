-- Worked scripts, and how they are run.
pub mod Scripts
pub mod Logs
pub mod Corners
pub mod CornerLogs
pub mod Forms
pub mod FormLogs
pub mod Controls
pub mod ControlLogs
pub mod Internals
pub mod InternalLogs
pub mod Resets
pub mod ResetLogs
pub mod Validity
pub mod ValidityLogs
pub mod Submissions
pub mod SubmissionLogs
use Rattle.std.specs.Prelude.{ℕ, not, List, codes, filter, Result}
use Rattle.form_submission.specs.declared.site.Site.{Site}
use Rattle.rule_lines.specs.Acts.{Said}
use Rattle.rule_tokens.specs.declared.refused.Bad.{Bad}
use Rattle.ce_events.specs.declared.event.Event.{Event}
use Rattle.ce_algorithms.specs.Steps.{Outcome}
use Rattle.ce_algorithms.specs.State.{State}
use Rattle.ce_algorithms.specs.Model.{model}
use Rattle.ce_algorithms.specs.Session.{run_lines, start, log_of}
use Rattle.ce_events.specs.Text.{is_trace}

abbrev pub test_site : Site
test_site = record { url = codes "http://page.test/"; boundary = codes "XX" }

-- the session of a script, with so much fuel
abbrev pub worked : ℕ → List (Result Said Bad) → Outcome State (Unit {0})
worked fuel script = run_lines model 1 script (start (record { fuel = fuel; site = test_site }))

-- its log, with ample fuel
abbrev pub traced : List (Result Said Bad) → List Event
traced script = log_of (worked 1000 script)

-- its log without the trace
abbrev pub seen : ℕ → List (Result Said Bad) → List Event
seen fuel script = filter (λ e. not (is_trace e)) (log_of (worked fuel script))
