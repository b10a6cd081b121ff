use Rattle.page_runner.proofs.EndLaws.{runs_to_end, writes_front}
use Rattle.page_runner.proofs.top.run_with.Goals as goal

pub returns-clause-complete : goal.returns-clause-complete
returns-clause-complete g c = λ script known calm_source calm_sink.
    rw c.of.ensures (runs_to_end c.args.options script _ _ _ _ _ _ _ _ _ _ c.run_script.ensures.table known calm_source calm_sink)

pub returns-clause-front : goal.returns-clause-front
returns-clause-front g c = λ script known at_end. writes_front c.args.options script _ _ _ _ _ _ _ _ _ _ c.run_script.ensures.table known at_end
