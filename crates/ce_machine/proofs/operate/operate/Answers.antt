use Rattle.ce_algorithms.specs.Deeds.{resolve}
use Rattle.ce_algorithms.specs.State.{View}
use Rattle.ce_frames.specs.OperateTurns.{operate_turn}
use Rattle.ce_machine.proofs.OperateLaws.{resolved_whole}
use Rattle.ce_machine.proofs.operate.operate.Goals as goal

pub returns-in-Ok-clause-turn : goal.returns-in-Ok-clause-turn
unfolding operate_turn
returns-in-Ok-clause-turn c =
    rw c.in-Ok.ensures at
    (c.do_resolved.ensures.turn c.args.this.now (λ (v : View). resolve v c.args.op)
    (resolved_whole c.args.this.now c.args.op c.args.stack.now c.args.state.now c.resolve-resolved.result c.resolve-resolved.ensures.deed))

pub returns-in-Ok-clause-placed : goal.returns-in-Ok-clause-placed
unfolding operate_turn
returns-in-Ok-clause-placed c =
    rw c.in-Ok.ensures at
    (c.do_resolved.ensures.placed c.args.this.now (λ (v : View). resolve v c.args.op)
    (resolved_whole c.args.this.now c.args.op c.args.stack.now c.args.state.now c.resolve-resolved.result c.resolve-resolved.ensures.deed))
