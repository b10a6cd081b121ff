use Rattle.ce_machine.proofs.BodyLaws.{over_lasts, over_turns}
use Rattle.ce_machine.proofs.bodies.body_over.Goals as goal

pub returns-clause-turn : goal.returns-clause-turn
returns-clause-turn c = over_turns c.args.stack.now c.end.new.self c.args.state.now c.end.ensures.frames c.end.ensures.behaviours

pub returns-clause-lasts : goal.returns-clause-lasts
returns-clause-lasts c = over_lasts c.args.stack.now c.args.state.now
