use Rattle.std.proofs.Common.{◌≡◌, ◌++◌, take}
use Rattle.entry_list.proofs.custom.put_all.Given as goal

abbrev pub invariant-loop-e : goal.invariant-loop-e
invariant-loop-e l = l.list ≡ l.initial.list ++ take l.e-index l.e-items
