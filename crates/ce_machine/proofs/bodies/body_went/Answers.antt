use Rattle.std.proofs.Common.{ap}
use Rattle.ce_algorithms.specs.Page.{Page}
use Rattle.frame_stack.specs.Sessions.{session}
use Rattle.frame_stack.specs.Stacked.{below_top, frames_of}
use Rattle.ce_machine.proofs.BodyLaws.{running_lasts, went_is}
use Rattle.ce_outcomes.proofs.TurnLaws.{turns_as}
use Rattle.ce_machine.proofs.bodies.body_went.Goals as goal

pub returns-in_ok-now-in-Ok-clause-turn : goal.returns-in_ok-now-in-Ok-clause-turn
returns-in_ok-now-in-Ok-clause-turn c =
    turns_as (below_top (frames_of c.args.stack.now)) (frames_of c.run.new.stack) c.in_ok-now-in-Ok.now (session c.run.new.stack c.run.new.state) _ _
    (went_is c.args.stack.now c.requires.body c.args.state.now c.tell.new.state c.args.given c.in-Ok.ensures.told) c.in_ok-now-in-Ok.ensures.turn

pub returns-in_ok-now-in-Ok-clause-lasts : goal.returns-in_ok-now-in-Ok-clause-lasts
returns-in_ok-now-in-Ok-clause-lasts c =
    running_lasts c.args.state.now.page.forest _ _ c.tell.new.state.page.forest
    (went_is c.args.stack.now c.requires.body c.args.state.now c.tell.new.state c.args.given c.in-Ok.ensures.told)
    (ap (λ (p : Page). p.forest) c.in-Ok.ensures.page) c.in_ok-now-in-Ok.ensures.lasts
