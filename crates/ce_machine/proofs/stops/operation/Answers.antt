use Rattle.frame_stack.specs.Sessions.{session}
use Rattle.ce_machine.proofs.BodyLaws.{operation_turns}
use Rattle.ce_machine.proofs.stops.operation.Goals as goal

pub returns-clause-turn : goal.returns-clause-turn
returns-clause-turn c =
    operation_turns c.args.stack.now c.operate.new.stack c.args.state.now
    (session c.operate.new.stack c.operate.new.state) c.this-this.result c.args.op c.operate.result c.requires.body c.this-this.ensures
    c.operate.ensures.turn
