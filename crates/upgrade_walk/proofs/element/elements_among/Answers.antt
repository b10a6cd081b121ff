use Rattle.node_trees.specs.Facts.{is_element}
use Rattle.node_trees.specs.Kinds.{IsElement}
use Rattle.node_trees.specs.Nodes.{IsNode}
use Rattle.node_trees.specs.Spots.{kind_at}
use Rattle.upgrade_walk.proofs.ElementLemmas.{element_is}
use Rattle.ce_base.proofs.Filtered.{filter-next}
use Rattle.upgrade_walk.proofs.FilterLemmas.{filter_holds}
use Rattle.upgrade_walk.proofs.element.elements_among.Goals as goal

pub loop-i-preserved : goal.loop-i-preserved
loop-i-preserved c =
    filter-next (λ m. is_element (kind_at c.args.tree.now m)) c.args.nodes.now c.loop-i.i c.node_at-n.result c.node_at-n.ensures.here
    c.loop-i.found _ c.is_element-is_found.result c.loop-i.invariant c.is_element-is_found.ensures c.in_ok-keep_where.ensures

pub returns-clause-nodes : goal.returns-clause-nodes
returns-clause-nodes c = filter_holds (IsNode c.args.tree.now) (IsElement c.args.tree.now) (λ m. is_element (kind_at c.args.tree.now m))
    (element_is c.args.tree.now) c.args.nodes.now c.loop-i.found c.loop-i.i c.loop-i.invariant c.requires
