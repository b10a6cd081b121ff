use Rattle.std.proofs.Common.{◌≡◌, take}
use Rattle.node_arena.proofs.attributes.list_few.Given as goal

abbrev pub invariant-loop-item : goal.invariant-loop-item
invariant-loop-item l = l.list.items ≡ take l.item-index l.items
