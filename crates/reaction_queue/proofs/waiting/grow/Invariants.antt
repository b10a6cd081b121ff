use Rattle.std.proofs.Common.{◌≡◌, ◌+◌, ◌-◌, ℕ, vec_len, None}
use Rattle.reaction_queue.specs.Chains.{padded}
use Rattle.reaction_queue.proofs.waiting.grow.Given as goal

abbrev pub invariant-loop-ends : goal.invariant-loop-ends
invariant-loop-ends l = (n : ℕ) × (l.ends.items ≡ padded None l.fn.ends.items n)

abbrev pub decreases-loop-ends : goal.decreases-loop-ends
decreases-loop-ends l = l.place + 1 - vec_len l.ends
