use Rattle.std.proofs.Common.{◌∙◌}
use Rattle.tree_laws.proofs.WayUp.{first_above}
use Rattle.node_arena.proofs.tree.Tree.shadow_including_root.Goals as goal

pub loop-next-preserved : goal.loop-next-preserved
loop-next-preserved c = (
  c.in-Some.ensures.up.0,
  c.loop-next.invariant.1
      ∙ first_above _ c.loop-next.at c.in-Some.next c.in-Some.ensures.tidy c.in-Some.ensures.up,
)
