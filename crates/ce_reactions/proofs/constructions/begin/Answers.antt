use Rattle.ce_reactions.proofs.ConstructLaws.{own_turns}
use Rattle.ce_reactions.proofs.SessionLaws.{paired_is}
use Rattle.std.proofs.Common.{refl, ◌∙◌}
use Rattle.ce_reactions.proofs.constructions.begin.Goals as goal

pub returns-clause-turn : goal.returns-clause-turn
returns-clause-turn c =
    own_turns c.args.stack.now c.push.new.self c.begin.new.self c.args.class c.args.state.now c.requires.paired c.in_ok-push.ensures.frames
    c.in_ok-push.ensures.behaviours c.in_ok-begin.ensures.behaviours c.in_ok-args.args c.in_ok-args.ensures c.in_ok-begin.ensures.frames

pub returns-clause-paired : goal.returns-clause-paired
returns-clause-paired c = paired_is c.args.stack.now c.begin.new.self c.args.state.now c.args.state.now
    (c.in_ok-begin.ensures.behaviours ∙ c.in_ok-push.ensures.behaviours) refl c.requires.paired
