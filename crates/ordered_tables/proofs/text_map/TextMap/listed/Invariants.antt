use Rattle.std.proofs.Common.{◌≡◌, ◌++◌}
use Rattle.ordered_tables.proofs.text_map.TextMap.listed.Given as goal

-- the pairs so far and those that are left
abbrev pub invariant-loop-pair : goal.invariant-loop-pair
invariant-loop-pair l = l.list.items ++ l.pair-iterator ≡ l.self
