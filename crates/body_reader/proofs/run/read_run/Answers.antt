use Rattle.std.proofs.Common.{◌∙◌, sym}
use Rattle.std.proofs.lemmas.Bool.{false≢true}
use Rattle.body_reader.proofs.RunLaws.{meets_unread, meets_usage, runs_whole}
use Rattle.body_reader.proofs.run.read_run.Goals as goal

pub returns-in-Err-clause-table : goal.returns-in-Err-clause-table
returns-in-Err-clause-table g c = meets_unread _ _ _ _ _ _ _ _ (λ is. false≢true (c.in-Err.ensures.refused is))

pub returns-in-Ok-None-clause-table : goal.returns-in-Ok-None-clause-table
returns-in-Ok-None-clause-table g c = rw (← c.in-Ok-None.ensures.asked, c.in-Ok-None.field-0-is) (meets_usage _ _ _ _ _ _ _)

pub returns-in-Ok-Some-clause-complete : goal.returns-in-Ok-Some-clause-complete
returns-in-Ok-Some-clause-complete g c = λ body_type bytes said known within calm_source calm_sink.
    runs_whole _ body_type bytes _ _ _ _ _ _ _ _ _ _ c.run_typed.ensures.table
    (sym c.in-Ok-Some.field-0-is ∙ (c.in-Ok-Some.ensures.asked ∙ said)) known within calm_source calm_sink
