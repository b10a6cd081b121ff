use Rattle.std.proofs.Common.{◌≡◌, ◌++◌}
use Rattle.ordered_tables.proofs.node_set.NodeSet.list.Given as goal

abbrev pub invariant-loop-n : goal.invariant-loop-n
invariant-loop-n l = l.list ++ l.n-iterator ≡ l.self
