use Rattle.ce_outcomes.specs.Turns.{end_of}
use Rattle.ce_machine.proofs.PlacedLaws.{body_there}
use Rattle.ce_machine.proofs.turns.resume_body.Goals as goal

pub body_went-requires-clause-there : goal.body_went-requires-clause-there
body_went-requires-clause-there c = body_there c.args.stack.now (end_of c.args.end) c.args.state.now.page.forest c.requires.body c.requires.placed

pub body_threw-requires-clause-there : goal.body_threw-requires-clause-there
body_threw-requires-clause-there c = body_there c.args.stack.now (end_of c.args.end) c.args.state.now.page.forest c.requires.body c.requires.placed
