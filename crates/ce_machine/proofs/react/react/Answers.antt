use Rattle.std.proofs.Common.{ap, arith}
use Rattle.node_trees.specs.Nodes.{size}
use Rattle.ce_algorithms.specs.Model.{model}
use Rattle.ce_algorithms.specs.Perform.{steps}
use Rattle.frame_stack.specs.Stacked.{frames_of}
use Rattle.ce_machine.proofs.OperateLaws.{react_turns, react_lasts}
use Rattle.ce_machine.proofs.react.react.Goals as goal

pub returns-in_ok-now-in-Ok-clause-turn : goal.returns-in_ok-now-in-Ok-clause-turn
returns-in_ok-now-in-Ok-clause-turn c =
    react_turns (frames_of c.args.stack.now) (frames_of c.stepped.new.stack) c.in_ok-now-in-Ok.now c.in-Ok.queue
    (steps model c.args.deed) c.args.state.now c.open_queue.new.self c.stepped.new.state c.in-Ok.ensures.step
    (c.in_ok-now-in-Ok.ensures.turn (steps model c.args.deed c.open_queue.new.self) c.run-ran.ensures.step)

pub returns-in_ok-now-in-Ok-clause-lasts : goal.returns-in_ok-now-in-Ok-clause-lasts
returns-in_ok-now-in-Ok-clause-lasts c =
    let same = ap size c.open_queue.ensures.forest in
    let grows = c.run-ran.ensures.grows in
    react_lasts c.args.state.now.page.forest c.in-Ok.queue (steps model c.args.deed) c.args.state.now c.open_queue.new.self c.in-Ok.ensures.step
    (c.in_ok-now-in-Ok.ensures.lasts c.args.state.now.page.forest (steps model c.args.deed c.open_queue.new.self)
    (omega (arith, same, grows)) c.run-ran.ensures.step)
