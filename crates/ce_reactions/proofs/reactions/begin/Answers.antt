use Rattle.std.proofs.Common.{sym}
use Rattle.ce_reactions.proofs.CallLaws.{begun_turns}
use Rattle.ce_reactions.proofs.reactions.begin.Goals as goal

pub returns-clause-turn : goal.returns-clause-turn
returns-clause-turn c =
    begun_turns c.args.stack.now c.begin.new.self c.args.e c.args.class c.args.r.now c.args.state.now c.log_call.new.self c.in_ok-log_call.ensures.logged
    c.requires.paired c.in_ok-begin-in-Call.ensures.behaviours
    c.in-Call.call c.in_ok-args.args (sym c.in-Call.ensures) c.in_ok-args.ensures c.in_ok-begin-in-Call.ensures.frames
