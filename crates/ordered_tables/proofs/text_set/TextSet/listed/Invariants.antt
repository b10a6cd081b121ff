use Rattle.std.proofs.Common.{◌≡◌, ◌++◌}
use Rattle.ordered_tables.proofs.text_set.TextSet.listed.Given as goal

-- the texts so far and those that are left
abbrev pub invariant-loop-text : goal.invariant-loop-text
invariant-loop-text l = l.list ++ l.text-iterator ≡ l.self
