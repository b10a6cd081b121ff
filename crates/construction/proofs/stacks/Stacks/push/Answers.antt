use Rattle.std.proofs.Common.{arith, rules}
use Rattle.construction.proofs.StacksLemmas.{pushes, pushes-stack, pushes-others, stays}
use Rattle.construction.proofs.stacks.Stacks.push.Goals as goal

pub returns-clause-stacks : goal.returns-clause-stacks
returns-clause-stacks c =
    rw (← c.d.view_is, ← c.self.view_is)
    (pushes c.d.inside.0 c.self.inside.stacks.items c.grow.new.stacks.items c.index_mut-stack.result.now c.push.new.self
    (omega (arith, c.in_ok-grow.ensures.within)) c.in_ok-grow.ensures.grown c.index_mut-stack.ensures.value c.args.node c.in_ok-push.ensures.ok)

pub returns-clause-stack : goal.returns-clause-stack
returns-clause-stack c =
    rw (← c.d.view_is, ← c.self.view_is)
    (pushes-stack c.d.inside.0 c.self.inside.stacks.items c.grow.new.stacks.items c.index_mut-stack.result.now c.push.new.self
    (omega (arith, c.in_ok-grow.ensures.within)) c.in_ok-grow.ensures.grown c.index_mut-stack.ensures.value c.args.node c.in_ok-push.ensures.ok)

pub returns-clause-others : goal.returns-clause-others
returns-clause-others c =
    rw (← c.d.view_is, ← c.self.view_is)
    (pushes-others c.d.inside.0 c.self.inside.stacks.items c.grow.new.stacks.items c.index_mut-stack.result.now c.push.new.self
    (omega (arith, c.in_ok-grow.ensures.within)) c.in_ok-grow.ensures.grown c.index_mut-stack.ensures.value)

pub returns-in_err-push-clause-err : goal.returns-in_err-push-clause-err
returns-in_err-push-clause-err c =
    let kept = stays c.self.inside.stacks.items c.grow.new.stacks.items c.d.inside.0 c.index_mut-stack.result.now c.push.new.self
    c.index_mut-stack.ensures.value c.in_err-push.ensures.err c.grow.ensures.same in
    rw (← c.self.view_is) (search (rules, kept))
