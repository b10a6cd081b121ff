use Rattle.frame_stack.specs.Stacked.{frames_of}
use Rattle.frame_stack.specs.Frames.{waiting_of}
use Rattle.ce_frames.specs.Turns.{turn_went}
use Rattle.ce_drains.proofs.SessionLaws.{lifted, lifted_paired}
use Rattle.ce_machine.proofs.FrameLaws.{went_at}
use Rattle.ce_machine.proofs.turns.go_on.Goals as goal

pub returns-clause-turn : goal.returns-clause-turn
returns-clause-turn c =
    lifted (turn_went (waiting_of c.args.frame) c.args.given) c.args.stack.now c.settled.new.stack (frames_of c.args.stack.now)
    (frames_of c.settled.new.stack) c.in_ok-now.now c.args.state.now c.settled.new.state
    (went_at (waiting_of c.args.frame) c.args.given c.args.state.now c.requires.goes) c.in_ok-now.ensures.turn c.in_ok-now.ensures.same

pub returns-clause-paired : goal.returns-clause-paired
returns-clause-paired c =
    lifted_paired (turn_went (waiting_of c.args.frame) c.args.given) c.args.stack.now c.settled.new.stack (frames_of c.args.stack.now)
    (frames_of c.settled.new.stack) c.in_ok-now.now c.args.state.now c.settled.new.state
    (went_at (waiting_of c.args.frame) c.args.given c.args.state.now c.requires.goes) c.in_ok-now.ensures.turn c.in_ok-now.ensures.same c.requires.paired
