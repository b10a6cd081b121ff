use Rattle.ce_algorithms.specs.Drain.{open_queue}
use Rattle.ce_algorithms.specs.Steps.{Goes}
use Rattle.std.specs.Prelude.{◌≡◌}
use Rattle.ce_frames.proofs.BlindSteps.{blind_open_queue}
use Rattle.frame_stack.specs.Sessions.{session}
use Rattle.frame_stack.specs.Stacked.{frames_of}
use Rattle.ce_drains.proofs.SessionLaws.{goes_whole}
use Rattle.ce_machine.proofs.OperateLaws.{create_lasts, create_turns}
use Rattle.ce_machine.proofs.react.create_turn.Goals as goal

opened : (c : goal.In_ok-now-in-Ok)
    → Goes c.in-Ok.queue (session c.push.new.self c.open_queue.new.self) ≡ open_queue (session c.args.stack.now c.args.state.now)
opened c = goes_whole open_queue c.args.stack.now c.push.new.self c.in-Ok.queue c.args.state.now c.open_queue.new.self blind_open_queue
    c.in_ok-push-in-Ok.ensures.behaviours c.in-Ok.ensures.step

pub returns-in_ok-now-in-Ok-clause-turn : goal.returns-in_ok-now-in-Ok-clause-turn
returns-in_ok-now-in-Ok-clause-turn c =
    create_turns (frames_of c.args.stack.now) (frames_of c.push.new.self)
    (frames_of c.create_named.new.stack) c.in_ok-now-in-Ok.now c.in-Ok.queue c.args.name.now c.args.is c.args.document
    (session c.args.stack.now c.args.state.now) (session c.push.new.self c.open_queue.new.self) (session c.create_named.new.stack c.create_named.new.state)
    (opened c)
    c.in_ok-push-in-Ok.ensures.frames c.in_ok-now-in-Ok.ensures.turn

pub returns-in_ok-now-in-Ok-clause-lasts : goal.returns-in_ok-now-in-Ok-clause-lasts
returns-in_ok-now-in-Ok-clause-lasts c =
    create_lasts c.args.state.now.page.forest c.in-Ok.queue c.args.name.now c.args.is c.args.document (session c.args.stack.now c.args.state.now)
    (session c.push.new.self c.open_queue.new.self) (opened c) c.open_queue.ensures.forest c.in_ok-now-in-Ok.ensures.lasts
