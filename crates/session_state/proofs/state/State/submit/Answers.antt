-- The event of the submission stands behind the log.
use Rattle.ce_algorithms.specs.State.{State}
use Rattle.session_state.proofs.SubmissionLaws.{event_is_logged}
use Rattle.session_state.proofs.state.State.submit.Goals as goal

pub returns-clause-step : goal.returns-clause-step
returns-clause-step c =
    let s : State = record {
      site = c.self.inside.site;
      page = c.self.inside.page;
      fuel = c.self.inside.fuel;
      classes = c.self.inside.classes;
      variables = c.self.inside.variables;
      log = c.self.inside.log.items;
    } in
    rw (← c.self.view_is) (event_is_logged s _ c.submit.new.log.items c.in_ok-submit.ensures)
