use Rattle.std.proofs.Common.{◌≡◌, ◌+◌, drop}
use Rattle.node_arena.specs.Attributes.{name_place}
use Rattle.node_arena.proofs.attributes.place_of.Given as goal

abbrev pub invariant-loop-i : goal.invariant-loop-i
invariant-loop-i l = name_place l.name l.items ≡ l.i + name_place l.name (drop l.i l.items)
