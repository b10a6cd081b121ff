use Rattle.ce_page.proofs.StepLemmas.{goes_on}
use Rattle.ce_page.proofs.page.Page.removed.Goals as goal

pub returns-then-was-clause-step : goal.returns-then-was-clause-step
returns-then-was-clause-step c = rw c.if-was.true (goes_on _ _ _ _ _ c.in_ok-tell_at_turn.ensures.step c.tell.ensures.step)
