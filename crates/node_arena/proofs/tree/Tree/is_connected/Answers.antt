use Rattle.std.proofs.Common.{◌∙◌}
use Rattle.node_arena.proofs.MarkLemmas.{connected-up}
use Rattle.node_arena.proofs.tree.Tree.is_connected.Goals as goal

pub loop-next-preserved : goal.loop-next-preserved
loop-next-preserved c =
    let up = c.in-Some.ensures.up in
    (up.0, c.loop-next.invariant.1 ∙ connected-up _ _ _ c.in-Some.ensures.tidy c.loop-next.invariant.0 up)
