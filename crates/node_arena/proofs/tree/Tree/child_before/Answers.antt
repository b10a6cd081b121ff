use Rattle.std.proofs.Common.{◌∙◌}
use Rattle.node_arena.proofs.Calls.{child_before_is}
use Rattle.node_arena.proofs.tree.Tree.child_before.Goals as goal

pub returns-in-Some-clause-child : goal.returns-in-Some-clause-child
returns-in-Some-clause-child c = c.node.ensures.previous_is ∙ child_before_is _ _ _ _ c.requires.child c.in-Some.is
