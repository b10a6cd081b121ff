use Rattle.std.proofs.Common.{◌≡◌, ◌++◌, take}
use Rattle.entry_list.specs.Selected.{option_entries}
use Rattle.entry_list.proofs.native.put_options.Given as goal

abbrev pub invariant-loop-i : goal.invariant-loop-i
invariant-loop-i l = l.list ≡ l.initial.list ++ option_entries l.tree l.select (take l.i l.options)
