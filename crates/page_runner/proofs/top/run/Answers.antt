use Rattle.std.proofs.Common.{◌∙◌, sym}
use Rattle.script_runner.proofs.ExitLaws.{meets_made, meets_refused, meets_unread}
use Rattle.script_runner.proofs.WholeLaws.{runs_whole}
use Rattle.page_runner.proofs.top.run.Goals as goal

pub returns-in-Err-clause-table : goal.returns-in-Err-clause-table
returns-in-Err-clause-table g c = meets_unread _ _ _ _ _ _ _ _

pub returns-in-Ok-Refused-clause-table : goal.returns-in-Ok-Refused-clause-table
returns-in-Ok-Refused-clause-table g c = rw (← c.in-Ok-Refused.ensures, c.in-Ok-Refused.field-0-is) (meets_refused _ _ _ _ _ _ _)

pub returns-in-Ok-Script-clause-complete : goal.returns-in-Ok-Script-clause-complete
returns-in-Ok-Script-clause-complete g c = λ set script said known within calm_source calm_sink.
    runs_whole _ set script _ _ _ _ _ _ _ _ _ _ c.run_with.ensures.table
    (sym c.in-Ok-Script.field-0-is ∙ c.in-Ok-Script.ensures ∙ said) known within calm_source calm_sink

pub returns-in-Ok-Made-clause-table : goal.returns-in-Ok-Made-clause-table
returns-in-Ok-Made-clause-table g c =
    rw (c.of-in-Ok-Made.ensures, ← c.in-Ok-Made.ensures, c.in-Ok-Made.field-0-is) (meets_made _ _ _ _ _ _ _ _ _ _ _ c.run_made.ensures.table)
