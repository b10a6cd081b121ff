use Rattle.ce_reactions.proofs.creations.create_found.Goals as goal

pub returns-then-is_autonomous-clause-turn : goal.returns-then-is_autonomous-clause-turn
returns-then-is_autonomous-clause-turn c = c.in_ok-now.ensures.turn c.args.is

pub returns-then-is_autonomous-clause-lasts : goal.returns-then-is_autonomous-clause-lasts
returns-then-is_autonomous-clause-lasts c = c.in_ok-now.ensures.lasts c.args.is
