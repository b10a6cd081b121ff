use Rattle.std.proofs.Common.{◌∙◌, All, subst, sym}
use Rattle.node_trees.specs.Nodes.{IsNode}
use Rattle.form_owner.proofs.Nodes.{order-nodes, read-nodes}
use Rattle.form_owner.proofs.reach.consider_below.Goals as goal

pub consider_all-requires : goal.consider_all-requires
consider_all-requires c = order-nodes c.args.tree.now c.args.n _ c.requires.tidy c.in_ok-below.ensures

pub consider_all-requires-then-is_a-2 : goal.consider_all-requires-then-is_a-2
consider_all-requires-then-is_a-2 c =
    subst (All (IsNode c.args.tree.now)) (sym (c.in_ok-below-2.ensures.children ∙ c.children.ensures.below)) (read-nodes _ _ c.children.ensures.read)
