use Rattle.std.proofs.Common.{ℕ, List, ◌++◌, take}
use Rattle.control_state.specs.Counts.{CountsNormalized}
use Rattle.control_state.proofs.counts.NormalizedUnits.take.Given as goal

abbrev pub invariant-loop-b : goal.invariant-loop-b
invariant-loop-b l = (before : List ℕ) → CountsNormalized l.initial.self before → CountsNormalized l.self (before ++ take l.b-index l.b-items)
