use Rattle.std.proofs.Common.{ap, arith, ◌∙◌}
use Rattle.construction.specs.Stacks.{base_of, marked}
use Rattle.construction.proofs.StacksLemmas.{changes-stack, marks, read-of, stack_of-others}
use Rattle.construction.proofs.stacks.Stacks.base.Goals as goal

pub returns-clause-stacks : goal.returns-clause-stacks
returns-clause-stacks c =
    rw (← c.d.view_is, ← c.self.view_is)
    (marks c.d.inside.0 c.self.inside.stacks.items c.index_mut-stack.result.now c.base.new.self
    (omega arith) c.index_mut-stack.ensures.value c.base.ensures.entries)

pub returns-clause-last : goal.returns-clause-last
returns-clause-last c = rw (← c.d.view_is, ← c.self.view_is)
    (c.base.ensures.last ∙ ap base_of
    (read-of c.d.inside.0 c.self.inside.stacks.items c.index_mut-stack.result.now (omega arith) c.index_mut-stack.ensures.value))

pub returns-clause-stack : goal.returns-clause-stack
returns-clause-stack c = rw (← c.d.view_is, ← c.self.view_is)
    (changes-stack marked c.d.inside.0 c.self.inside.stacks.items c.index_mut-stack.result.now c.base.new.self
    (omega arith) c.index_mut-stack.ensures.value c.base.ensures.entries)

pub returns-clause-others : goal.returns-clause-others
returns-clause-others c = rw (← c.d.view_is, ← c.self.view_is) (λ e other. stack_of-others e c.d.inside.0 c.base.new.self c.self.inside.stacks.items other)
