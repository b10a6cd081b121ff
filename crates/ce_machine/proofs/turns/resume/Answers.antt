use Rattle.frame_stack.specs.Sessions.{session}
use Rattle.frame_stack.specs.Stacked.{frames_of}
use Rattle.frame_stack.specs.Frames.{waiting_of}
use Rattle.ce_frames.specs.Turns.{turn_threw}
use Rattle.ce_drains.proofs.SessionLaws.{lifted, lifted_paired}
use Rattle.ce_machine.proofs.FrameLaws.{threw_at}
use Rattle.ce_machine.proofs.TurnLaws.{resumed_went, resumed_threw, resumed_over}
use Rattle.ce_machine.proofs.turns.resume.Goals as goal

pub returns-in_ok-now-in-Went-clause-turn : goal.returns-in_ok-now-in-Went-clause-turn
returns-in_ok-now-in-Went-clause-turn c =
    resumed_went (frames_of c.args.stack.now) (frames_of c.went.new.stack) (waiting_of c.args.frame) c.args.end c.in_ok-now-in-Went.now c.in-Went.given
    (session c.args.stack.now c.args.state.now) (session c.went.new.stack c.went.new.state) c.in-Went.is c.in_ok-now-in-Went.ensures.turn

pub returns-in_ok-now-in-Threw-clause-turn : goal.returns-in_ok-now-in-Threw-clause-turn
returns-in_ok-now-in-Threw-clause-turn c =
    resumed_threw (frames_of c.args.stack.now) (frames_of c.threw.new.stack) (waiting_of c.args.frame) c.args.end c.in_ok-now-in-Threw.now c.in-Threw.f
    (session c.args.stack.now c.args.state.now) (session c.threw.new.stack c.threw.new.state) c.in-Threw.is
    (lifted (turn_threw (waiting_of c.args.frame) c.in-Threw.f) c.args.stack.now c.threw.new.stack (frames_of c.args.stack.now)
    (frames_of c.threw.new.stack) c.in_ok-now-in-Threw.now c.args.state.now c.threw.new.state
    (threw_at c.args.frame c.in-Threw.f c.args.state.now) c.in_ok-now-in-Threw.ensures.turn c.in_ok-now-in-Threw.ensures.same)

pub returns-in_ok-now-in-Threw-clause-paired : goal.returns-in_ok-now-in-Threw-clause-paired
returns-in_ok-now-in-Threw-clause-paired c =
    lifted_paired (turn_threw (waiting_of c.args.frame) c.in-Threw.f) c.args.stack.now c.threw.new.stack (frames_of c.args.stack.now)
    (frames_of c.threw.new.stack) c.in_ok-now-in-Threw.now c.args.state.now c.threw.new.state
    (threw_at c.args.frame c.in-Threw.f c.args.state.now) c.in_ok-now-in-Threw.ensures.turn c.in_ok-now-in-Threw.ensures.same c.requires.paired

pub returns-in-Over-clause-turn : goal.returns-in-Over-clause-turn
returns-in-Over-clause-turn c =
    resumed_over (frames_of c.args.stack.now) (waiting_of c.args.frame) c.args.end (session c.args.stack.now c.args.state.now) c.in-Over.is
