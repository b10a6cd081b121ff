use Rattle.std.proofs.Common.{◌≡◌, take}
use Rattle.node_arena.proofs.attributes.map_few.Given as goal

-- the names and values so far
abbrev pub invariant-loop-item : goal.invariant-loop-item
invariant-loop-item l = l.map ≡ take l.item-index l.items
