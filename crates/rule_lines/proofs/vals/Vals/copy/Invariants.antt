use Rattle.std.proofs.Common.{◌≡◌, take}
use Rattle.rule_lines.proofs.vals.Vals.copy.Given as goal

abbrev pub invariant-loop-v : goal.invariant-loop-v
invariant-loop-v l = l.items.items ≡ take l.v-index l.v-items
