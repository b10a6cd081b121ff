use Rattle.std.proofs.Common.{◌≡◌, ap, subst, sym, ◌∙◌}
use Rattle.std.specs.Prelude.{IfOk}
use Rattle.ce_algorithms.specs.declared.given.Given.{Given}
use Rattle.ce_frames.specs.Frames as waiting
use Rattle.ce_frames.specs.Turned.{Turned, ended}
use Rattle.ce_frames.specs.Turns.{turn_went}
use Rattle.ce_outcomes.specs.Turns.{came_in}
use Rattle.ce_outcomes.proofs.EndLaws.{misfit_is}
use Rattle.ce_outcomes.proofs.creations.fit_turn.Goals as goal

pub returns-in-Some-clause-turn : goal.returns-in-Some-clause-turn
returns-in-Some-clause-turn c =
    subst (λ (t : Turned). IfOk c.failed_turn.result (λ now. ended (came_in now c.failed_turn.new.state) ≡ t))
    (misfit_is c.args.local c.args.document c.in-Node.n c.in-Some.f c.args.state.now (rw c.as_str.ensures at c.in-Some.ensures)
    ∙ ap (λ (g : Given). turn_went (waiting.CreatingFit c.args.local c.args.document) g c.args.state.now) (sym c.in-Node.is))
    c.failed_turn.ensures.turn
