use Rattle.std.proofs.Common.{◌≡◌, take}
use Rattle.ce_base.proofs.nodes.Nodes.copy.Given as goal

abbrev pub invariant-loop-n : goal.invariant-loop-n
invariant-loop-n l = l.items.items ≡ take l.n-index l.n-items
