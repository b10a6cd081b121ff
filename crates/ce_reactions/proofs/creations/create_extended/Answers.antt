use Rattle.std.specs.Prelude.{◌≡◌}
use Rattle.ce_base.specs.declared.custom_state.CustomState.TheVariants.{Undefined}
use Rattle.ce_algorithms.specs.CreateLater.{make_in_state}
use Rattle.ce_algorithms.specs.State.{on_page}
use Rattle.ce_algorithms.specs.Steps.{Goes}
use Rattle.ce_frames.proofs.BlindSteps.{blind_on_page}
use Rattle.frame_stack.specs.Sessions.{session}
use Rattle.frame_stack.specs.Stacked.{frames_of}
use Rattle.ce_reactions.proofs.CreateLaws.{extended_lasts, extended_turns}
use Rattle.ce_reactions.proofs.SessionLaws.{goes_whole}
use Rattle.ce_reactions.proofs.creations.create_extended.Goals as goal

made_whole : (c : goal.In_ok-now-in-Ok)
    → Goes c.in-Ok.n (session c.push.new.self c.make_in_state.new.self)
    ≡ on_page (make_in_state c.args.local c.args.is c.args.document Undefined) (session c.args.stack.now c.args.state.now)
made_whole c =
    goes_whole (on_page (make_in_state c.args.local c.args.is c.args.document Undefined)) c.args.stack.now c.push.new.self c.in-Ok.n c.args.state.now
    c.make_in_state.new.self (blind_on_page (make_in_state c.args.local c.args.is c.args.document Undefined)) c.in_ok-push-in-Ok.ensures.behaviours
    c.in-Ok.ensures.step

pub returns-in_ok-now-in-Ok-clause-turn : goal.returns-in_ok-now-in-Ok-clause-turn
returns-in_ok-now-in-Ok-clause-turn c =
    extended_turns c.args.local c.args.is c.args.document c.args.d (session c.args.stack.now c.args.state.now) (frames_of c.args.stack.now)
    (frames_of c.push.new.self) (frames_of c.upgrade_turn.new.stack) c.in_ok-now-in-Ok.now c.in-Ok.n (session c.push.new.self c.make_in_state.new.self)
    (session c.upgrade_turn.new.stack c.upgrade_turn.new.state) (made_whole c)
    c.in_ok-push-in-Ok.ensures.frames c.in_ok-now-in-Ok.ensures.turn

pub returns-in_ok-now-in-Ok-clause-lasts : goal.returns-in_ok-now-in-Ok-clause-lasts
returns-in_ok-now-in-Ok-clause-lasts c =
    extended_lasts c.args.local c.args.is c.args.document c.args.d (session c.args.stack.now c.args.state.now) c.args.state.now.page.forest
    (frames_of c.push.new.self) (frames_of c.upgrade_turn.new.stack) c.in_ok-now-in-Ok.now c.in-Ok.n (session c.push.new.self c.make_in_state.new.self)
    (session c.upgrade_turn.new.stack c.upgrade_turn.new.state) (made_whole c) c.in-Ok.ensures.made
    c.make_in_state.ensures.grows c.upgrade_turn.ensures.grows c.in_ok-now-in-Ok.ensures.turn
