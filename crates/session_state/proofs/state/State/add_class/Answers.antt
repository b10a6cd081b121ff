use Rattle.frame_stack.specs.Stacked.{behaviours_of}
use Rattle.session_state.proofs.PartLaws.{class_refused, class_taken}
use Rattle.session_state.proofs.state.State.add_class.Goals as goal

pub returns-in-Err-clause-taken : goal.returns-in-Err-clause-taken
returns-in-Err-clause-taken c =
    class_refused c.args.name (behaviours_of c.args.stack.now) c.args.self.now c.new_class.new.self c.in-Err.refused c.in-Err.ensures.taken

pub returns-in_ok-add_class-in-Ok-clause-taken : goal.returns-in_ok-add_class-in-Ok-clause-taken
returns-in_ok-add_class-in-Ok-clause-taken c =
    class_taken c.args.name (behaviours_of c.args.stack.now)
    (behaviours_of c.add_class.new.self) c.args.self.now c.new_class.new.self c.requires.paired c.in-Ok.ensures.taken
    c.in_ok-add_class-in-Ok.ensures.behaviours
