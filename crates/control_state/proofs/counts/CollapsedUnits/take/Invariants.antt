use Rattle.std.proofs.Common.{ℕ, List, ◌++◌, take}
use Rattle.control_state.specs.Counts.{CountsCollapsed}
use Rattle.control_state.proofs.counts.CollapsedUnits.take.Given as goal

abbrev pub invariant-loop-b : goal.invariant-loop-b
invariant-loop-b l = (before : List ℕ) → CountsCollapsed l.initial.self before → CountsCollapsed l.self (before ++ take l.b-index l.b-items)
