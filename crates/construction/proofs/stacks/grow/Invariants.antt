use Rattle.std.proofs.Common.{◌≡◌, ◌+◌, ◌-◌, ℕ, vec_len}
use Rattle.construction.specs.Stacks.{grown, stack_of}
use Rattle.construction.proofs.stacks.grow.Given as goal

abbrev pub invariant-loop-alloc : goal.invariant-loop-alloc
invariant-loop-alloc l = record {
  grown : grown (l.place + 1) l.stacks.items ≡ grown (l.place + 1) l.fn.stacks.items;
  same : (e : ℕ) → stack_of e l.stacks.items ≡ stack_of e l.fn.stacks.items;
}

abbrev pub decreases-loop-alloc : goal.decreases-loop-alloc
decreases-loop-alloc l = l.place + 1 - vec_len l.stacks
