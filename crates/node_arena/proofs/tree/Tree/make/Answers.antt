use Rattle.node_arena.specs.Seen.{seen_is}
use Rattle.node_arena.proofs.Calls.{one_document, one_covers}
use Rattle.node_trees.specs.declared.kind.NodeKind.TheVariants.{Document}
use Rattle.node_trees.specs.Facts.{blank}
use Rattle.node_trees.specs.Trees.{single}
use Rattle.node_arena.proofs.MarkLemmas.{hold_same, hold_first}
use Rattle.node_arena.proofs.tree.Tree.make.Goals as goal

pub invariant_of-result : goal.invariant_of-result
invariant_of-result c = (
  (_, one_document _ _ c.blank.result c.new-nodes.ensures.items c.blank.ensures.facts c.blank.ensures.loose c.in_ok-push.ensures.items),
  tt,
)

pub invariant_of-result-2 : goal.invariant_of-result-2
invariant_of-result-2 c = (
  one_covers _ _ _ _ c.new-nodes.ensures.items c.blank.ensures.bare c.in_ok-push.ensures.items,
  hold_same _ (single 1 (blank Document 1)) _
      (seen_is _ _ _ (one_document _ _ c.blank.result c.new-nodes.ensures.items c.blank.ensures.facts c.blank.ensures.loose c.in_ok-push.ensures.items))
      (hold_first (blank Document 1) _ c.make_room.ensures.blank),
)

pub returns : goal.returns
returns c = seen_is _ _ _ (one_document _ _ c.blank.result c.new-nodes.ensures.items c.blank.ensures.facts c.blank.ensures.loose c.in_ok-push.ensures.items)
