use Rattle.std.specs.Prelude.{None}
use Rattle.ce_algorithms.specs.Deeds.{resolve_user}
use Rattle.ce_algorithms.specs.State.{View}
use Rattle.ce_frames.specs.OperateTurns.{user_turn}
use Rattle.ce_machine.proofs.OperateLaws.{resolved_user_whole}
use Rattle.ce_machine.proofs.operate.act_as_user.Goals as goal

pub returns-clause-turn : goal.returns-clause-turn
unfolding user_turn
returns-clause-turn c =
    c.do_resolved.ensures.turn None (λ (v : View). resolve_user v c.args.c)
    (resolved_user_whole c.args.c c.args.stack.now c.args.state.now c.resolve_user-resolved.result c.resolve_user-resolved.ensures.deed)

pub returns-clause-placed : goal.returns-clause-placed
unfolding user_turn
returns-clause-placed c =
    c.do_resolved.ensures.placed None (λ (v : View). resolve_user v c.args.c)
    (resolved_user_whole c.args.c c.args.stack.now c.args.state.now c.resolve_user-resolved.result c.resolve_user-resolved.ensures.deed)
