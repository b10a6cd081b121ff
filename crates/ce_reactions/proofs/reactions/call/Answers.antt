use Rattle.frame_stack.specs.Sessions.{session}
use Rattle.frame_stack.specs.Stacked.{frames_of}
use Rattle.ce_reactions.proofs.CallLaws.{call_none, call_some}
use Rattle.ce_reactions.proofs.reactions.call.Goals as goal

pub returns-in-None-clause-turn : goal.returns-in-None-clause-turn
returns-in-None-clause-turn c =
    call_none (frames_of c.args.stack.now) c.args.e c.args.r.now (session c.args.stack.now c.args.state.now) c.requires.callback c.in-None.ensures.class

pub returns-in_ok-now-in-Some-clause-turn : goal.returns-in_ok-now-in-Some-clause-turn
returns-in_ok-now-in-Some-clause-turn c =
    call_some (frames_of c.args.stack.now) (frames_of c.begin.new.stack) c.in_ok-now-in-Some.now c.args.e c.in-Some.class c.args.r.now
    (session c.args.stack.now c.args.state.now)
    (session c.begin.new.stack c.begin.new.state) c.requires.callback c.in-Some.ensures.class c.in_ok-now-in-Some.ensures.turn
