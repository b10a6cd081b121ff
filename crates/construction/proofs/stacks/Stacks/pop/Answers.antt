use Rattle.std.proofs.Common.{arith}
use Rattle.construction.specs.Stacks.{without_last}
use Rattle.construction.proofs.StacksLemmas.{changes, changes-stack, stack_of-others}
use Rattle.construction.proofs.stacks.Stacks.pop.Goals as goal

pub returns-clause-stacks : goal.returns-clause-stacks
returns-clause-stacks c = rw (← c.d.view_is, ← c.self.view_is)
    (changes without_last c.d.inside.0 c.self.inside.stacks.items c.index_mut-stack.result.now c.pop.new.self
    (omega arith) c.index_mut-stack.ensures.value c.pop.ensures)

pub returns-clause-stack : goal.returns-clause-stack
returns-clause-stack c = rw (← c.d.view_is, ← c.self.view_is)
    (changes-stack without_last c.d.inside.0 c.self.inside.stacks.items c.index_mut-stack.result.now c.pop.new.self
    (omega arith) c.index_mut-stack.ensures.value c.pop.ensures)

pub returns-clause-others : goal.returns-clause-others
returns-clause-others c = rw (← c.d.view_is, ← c.self.view_is) (λ e other. stack_of-others e c.d.inside.0 c.pop.new.self c.self.inside.stacks.items other)
