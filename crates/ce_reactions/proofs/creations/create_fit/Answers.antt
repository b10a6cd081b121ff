use Rattle.std.proofs.Common.{ap, refl, subst}
use Rattle.ce_algorithms.specs.State.{State}
use Rattle.ce_frames.specs.ConstructTurns.{construct_turn}
use Rattle.frame_stack.specs.Sessions.{session}
use Rattle.frame_stack.specs.Stacked.{frames_of}
use Rattle.ce_outcomes.specs.Placed.{Lasts}
use Rattle.ce_reactions.proofs.CreateLaws.{fit_lasts, fit_turns}
use Rattle.ce_reactions.proofs.SessionLaws.{session_is}
use Rattle.ce_outcomes.proofs.TurnLaws.{turns_as}
use Rattle.ce_reactions.proofs.creations.create_fit.Goals as goal

pub returns-clause-turn : goal.returns-clause-turn
returns-clause-turn c is =
    fit_turns (frames_of c.args.stack.now) (frames_of c.push.new.self)
    (frames_of c.construct.new.stack) c.in_ok-now.now c.args.local is c.args.document c.args.d c.class_of-class.result
    (session c.args.stack.now c.args.state.now) (session c.construct.new.stack c.construct.new.state) c.requires.autonomous c.class_of-class.ensures
    c.in_ok-push.ensures.frames
    (turns_as (frames_of c.push.new.self) (frames_of c.construct.new.stack) c.in_ok-now.now (session c.construct.new.stack c.construct.new.state) _ _
    (ap (construct_turn c.class_of-class.result)
    (session_is c.args.stack.now c.push.new.self c.args.state.now c.args.state.now c.in_ok-push.ensures.behaviours refl)) c.in_ok-now.ensures.turn)

pub returns-clause-lasts : goal.returns-clause-lasts
returns-clause-lasts c is =
    fit_lasts c.args.state.now.page.forest c.args.local is c.args.document c.args.d c.class_of-class.result
    (session c.args.stack.now c.args.state.now) c.requires.autonomous c.class_of-class.ensures
    (subst (λ (t : State). Lasts c.args.state.now.page.forest (construct_turn c.class_of-class.result t))
    (session_is c.args.stack.now c.push.new.self c.args.state.now c.args.state.now c.in_ok-push.ensures.behaviours refl) c.in_ok-now.ensures.lasts)
