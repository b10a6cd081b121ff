use Rattle.rule_lines.specs.Acts.{act_of}
use Rattle.frame_stack.specs.Stacked.{behaviours_of}
use Rattle.session_state.proofs.PartLaws.{action_refused, action_taken}
use Rattle.session_state.proofs.state.State.add_action.Goals as goal

pub returns-in-Err-clause-taken : goal.returns-in-Err-clause-taken
returns-in-Err-clause-taken c =
    action_refused c.args.class.now c.args.call (act_of c.args.action) (behaviours_of c.args.stack.now) c.args.self.now c.in-Err.f
    (rw c.as_str.ensures at c.in-Err.ensures.names)

pub returns-in-Ok-extend-clause-taken : goal.returns-in-Ok-extend-clause-taken
returns-in-Ok-extend-clause-taken c =
    action_taken c.args.class.now c.args.call (act_of c.args.action) (behaviours_of c.args.stack.now)
    (behaviours_of c.extend.new.self) c.args.self.now c.call_added.new.self c.in-Ok.k c.requires.paired
    (rw c.as_str.ensures at c.in-Ok.ensures.names) c.in-Ok.ensures.within c.call_added.ensures.class c.in-Ok-extend.ensures.behaviours
