use Rattle.std.proofs.Common.{◌≡◌, None, ap, sym, subst}
use Rattle.node_trees.specs.Nodes.{IsNode}
use Rattle.node_trees.specs.Spots.{parent_at}
use Rattle.tree_laws.proofs.Rooted.{root_is_node}
use Rattle.above_reading.proofs.Roots.{root-free}
use Rattle.above_reading.specs.declared.above.Above.{Above}
use Rattle.above_reading.proofs.readings.Readings.owner.Goals as goal

pub named-requires-clause-root : goal.named-requires-clause-root
named-requires-clause-root c =
    subst (IsNode c.args.tree.now) (sym (ap (λ (a : Above). a.root) c.requires.above)) (root_is_node c.args.tree.now c.args.n c.requires.tidy c.requires.node)

pub named-requires-clause-top : goal.named-requires-clause-top
named-requires-clause-top c =
    subst (λ r. parent_at c.args.tree.now r ≡ None) (sym (ap (λ (a : Above). a.root) c.requires.above))
    (root-free c.args.tree.now c.requires.tidy c.args.n c.requires.node)
