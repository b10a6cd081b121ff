use Rattle.std.proofs.Common.{sym, ◌∙◌}
use Rattle.trace_check.proofs.ExitLaws.{checks_whole, meets_whole, told_apart}
use Rattle.trace_check.proofs.run.check_run.Goals as goal

pub returns-in-Ok-Whole-clause-table : goal.returns-in-Ok-Whole-clause-table
returns-in-Ok-Whole-clause-table g c =
    rw c.of.ensures
    (meets_whole c.in-Ok-Whole.bytes c.tell_verdict.result _ _ _ _ _ _ _ _ _ (rw c.in-Ok-Whole.field-0-is at c.in-Ok-Whole.ensures.row)
    (rw c.as_slice.ensures at c.tell_verdict.ensures.tells))

pub returns-in-Ok-Whole-clause-complete : goal.returns-in-Ok-Whole-clause-complete
returns-in-Ok-Whole-clause-complete g c = λ trace none known within calm_source calm_sink.
    checks_whole trace c.of.result _ _ _ _ _ _ _ _ _ (returns-in-Ok-Whole-clause-table g c)
    (λ same. told_apart c.tell_verdict.result (sym c.of.ensures ∙ same)) known
    within calm_source calm_sink
