use Rattle.std.proofs.Common.{sym, ◌∙◌}
use Rattle.tree_laws.proofs.Leaves.{leaf-above}
use Rattle.node_arena.proofs.tree.Tree.is_above.Goals as goal

pub returns-then-is_leaf : goal.returns-then-is_leaf
returns-then-is_leaf c = c.eq.ensures
    ∙ sym (leaf-above _ _ _ c.is_leaf.ensures.tidy c.requires.node (c.is_leaf.ensures.shadow c.if-is_leaf.true) (c.is_leaf.ensures.child c.if-is_leaf.true))
