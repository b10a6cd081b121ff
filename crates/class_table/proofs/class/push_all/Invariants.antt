use Rattle.std.proofs.Common.{◌≡◌, ◌++◌, drop}
use Rattle.class_table.proofs.class.push_all.Given as goal

abbrev pub invariant-loop-t : goal.invariant-loop-t
invariant-loop-t l = l.texts ++ drop l.t-index l.t-items ≡ l.initial.texts ++ l.t-items
