use Rattle.std.proofs.Common.{ap}
use Rattle.ce_algorithms.specs.Page.{Page}
use Rattle.frame_stack.specs.Sessions.{session}
use Rattle.frame_stack.specs.Stacked.{below_top, frames_of}
use Rattle.ce_machine.proofs.BodyLaws.{caught_is, running_lasts, threw_lasts, threw_turns}
use Rattle.ce_outcomes.proofs.TurnLaws.{turns_as}
use Rattle.ce_machine.proofs.bodies.body_threw.Goals as goal

pub returns-then-not-is_guarded-clause-turn : goal.returns-then-not-is_guarded-clause-turn
returns-then-not-is_guarded-clause-turn c =
    threw_turns c.args.stack.now c.end.new.self c.args.state.now c.args.f c.requires.body c.if-not-is_guarded.ensures c.end.ensures.frames
    c.end.ensures.behaviours

pub returns-then-not-is_guarded-clause-lasts : goal.returns-then-not-is_guarded-clause-lasts
returns-then-not-is_guarded-clause-lasts c = threw_lasts c.args.stack.now c.args.state.now c.args.f c.requires.body c.if-not-is_guarded.ensures

pub returns-in_ok-now-in-Ok-clause-turn : goal.returns-in_ok-now-in-Ok-clause-turn
returns-in_ok-now-in-Ok-clause-turn c =
    turns_as (below_top (frames_of c.args.stack.now)) (frames_of c.run.new.stack) c.in_ok-now-in-Ok.now (session c.run.new.stack c.run.new.state) _ _
    (caught_is c.args.stack.now c.requires.body c.args.state.now c.log.new.self c.args.f c.if-not-is_guarded.ensures c.in-Ok.ensures.logged)
    c.in_ok-now-in-Ok.ensures.turn

pub returns-in_ok-now-in-Ok-clause-lasts : goal.returns-in_ok-now-in-Ok-clause-lasts
returns-in_ok-now-in-Ok-clause-lasts c =
    running_lasts c.args.state.now.page.forest _ _ c.log.new.self.page.forest
    (caught_is c.args.stack.now c.requires.body c.args.state.now c.log.new.self c.args.f c.if-not-is_guarded.ensures c.in-Ok.ensures.logged)
    (ap (λ (p : Page). p.forest) c.in-Ok.ensures.page) c.in_ok-now-in-Ok.ensures.lasts
