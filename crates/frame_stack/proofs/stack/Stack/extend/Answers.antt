use Rattle.rule_lines.specs.Acts.{act_of}
use Rattle.frame_stack.proofs.ClassLaws.{extended_behaviours, extended_order, has_home_there}
use Rattle.frame_stack.proofs.stack.Stack.extend.Goals as goal

pub extend-requires : goal.extend-requires
extend-requires c = has_home_there c.self.inside.homes c.self.inside.chains.items c.self.inside.frames.items c.args.class c.args.call
    (act_of c.args.action) c.args.self.now c.self.view_is c.self.invariant c.requires.frames c.requires.class

pub invariant_of-self : goal.invariant_of-self
invariant_of-self c = extended_order c.self.inside.homes c.self.inside.chains.items c.self.inside.frames.items c.args.class c.args.call
    (act_of c.args.action) c.args.self.now c.self.view_is c.self.invariant c.requires.frames c.requires.class c.extend.result c.extend.new.self
    c.extend.ensures.extended c.extend.ensures.same

pub returns-clause-behaviours : goal.returns-clause-behaviours
returns-clause-behaviours c = extended_behaviours c.self.inside.homes c.self.inside.chains.items c.self.inside.frames.items c.args.class c.args.call
    (act_of c.args.action) c.args.self.now c.self.view_is c.self.invariant c.requires.frames c.requires.class c.extend.result c.extend.new.self
    c.extend.ensures.extended
