use Rattle.std.proofs.Common.{refl}
use Rattle.node_arena.proofs.NodeWrites.{stood}
use Rattle.node_arena.proofs.siblings.stand.Goals as goal

pub returns : goal.returns
returns c = stood _ _ _ _ _ _ _ _ _ _ _ _ c.index_of-at.ensures c.requires refl refl refl
