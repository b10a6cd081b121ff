use Rattle.std.proofs.Common.{◌≡◌, ◌+◌, ◌∷◌, [], ◌++◌, ap, ◌∙◌, sym, arith}
use Rattle.construction.specs.Stacks.{grown, stack_of}
use Rattle.construction.proofs.StacksLemmas.{grown-push, grown-all, stack_of-push}
use Rattle.construction.proofs.stacks.grow.Goals as goal

pub loop-alloc-preserved : goal.loop-alloc-preserved
loop-alloc-preserved c =
    let is : c.push.new.self.items ≡ c.loop-alloc.stacks.items ++ [] ∷ [] =
    c.in_ok-push.ensures.items ∙ ap (λ s. c.loop-alloc.stacks.items ++ s ∷ []) c.make.ensures in
    record {
      grown = ap (grown (c.args.place + 1)) is ∙ grown-push (c.args.place + 1) c.loop-alloc.stacks.items (omega arith) ∙ c.loop-alloc.invariant.grown;
      same = λ e. ap (stack_of e) is ∙ stack_of-push e c.loop-alloc.stacks.items ∙ c.loop-alloc.invariant.same e;
    }

pub returns-in_err-push-clause-same : goal.returns-in_err-push-clause-same
returns-in_err-push-clause-same c e = ap (stack_of e) c.in_err-push.ensures.items ∙ c.loop-alloc.invariant.same e

pub returns-clause-grown : goal.returns-clause-grown
returns-clause-grown c = sym (grown-all (c.args.place + 1) c.loop-alloc.stacks.items (omega arith)) ∙ c.loop-alloc.invariant.grown

pub returns-clause-same : goal.returns-clause-same
returns-clause-same c = c.loop-alloc.invariant.same
