use Rattle.frame_stack.proofs.Tops.{no_behaviours}
use Rattle.frame_stack.proofs.stack.Stack.make.Goals as goal

pub returns-clause-behaviours : goal.returns-clause-behaviours
returns-clause-behaviours c = no_behaviours c.make.result c.new-2.result.items c.make.ensures
