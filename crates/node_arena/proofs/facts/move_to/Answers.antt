use Rattle.std.proofs.Common.{refl}
use Rattle.node_arena.proofs.NodeWrites.{facts_edited}
use Rattle.node_arena.proofs.facts.move_to.Goals as goal

pub returns : goal.returns
returns c = facts_edited _ _ _ _ _ _ c.index_of-at.ensures c.requires refl
