use Rattle.frame_stack.specs.Sessions.{session}
use Rattle.frame_stack.specs.Stacked.{frames_of}
use Rattle.ce_reactions.proofs.CallLaws.{upgrade_is}
use Rattle.ce_outcomes.proofs.TurnLaws.{turns_as}
use Rattle.ce_reactions.proofs.reactions.react.Goals as goal

pub returns-in_ok-now-in-Some-clause-turn : goal.returns-in_ok-now-in-Some-clause-turn
returns-in_ok-now-in-Some-clause-turn c =
    turns_as (frames_of c.args.stack.now) (frames_of c.upgrade_turn.new.stack) c.in_ok-now-in-Some.now
    (session c.upgrade_turn.new.stack c.upgrade_turn.new.state) _ _
    (upgrade_is c.args.e c.in-Some.d c.args.r.now (session c.args.stack.now c.args.state.now) c.in-Some.ensures) c.in_ok-now-in-Some.ensures.turn
