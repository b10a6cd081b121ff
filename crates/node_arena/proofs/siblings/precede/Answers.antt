use Rattle.std.proofs.Common.{refl}
use Rattle.node_arena.proofs.NodeWrites.{precede_child, precede_none}
use Rattle.node_arena.proofs.siblings.precede.Goals as goal

pub returns-in-Some : goal.returns-in-Some
returns-in-Some c = precede_child _ _ _ _ _ _ _ _ c.in-Some.is c.requires.child c.index_of-at.ensures refl

pub returns-in-None : goal.returns-in-None
returns-in-None c = precede_none _ _ _ _ _ _ _ c.in-None.is c.requires.parent c.index_of-at-in-None.ensures refl
