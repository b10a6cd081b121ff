use Rattle.tree_laws.proofs.ReadBelow.{read_below, roots_below, none_below}
use Rattle.tree_laws.proofs.Siblings.{child-is_node, children-less, list-start, list-on, list-end}
use Rattle.node_arena.proofs.tree.Tree.children.Goals as goal

pub loop-at-init : goal.loop-at-init
loop-at-init c = rw c.make-list.ensures (list-start _ _ c.node-node.ensures.tidy c.requires _ c.node-node.ensures.first_is c.node-node.ensures.first)

pub next_sibling-at-requires : goal.next_sibling-at-requires
next_sibling-at-requires c = child-is_node _ _ c.node-node.ensures.tidy c.requires _ _ c.in-Some.is c.loop-at.invariant.child

pub loop-at-smaller : goal.loop-at-smaller
loop-at-smaller c = children-less _ _ c.node-node.ensures.tidy c.requires _ _ c.in-Some.is c.loop-at.invariant.child _ c.next_sibling-at.ensures.sibling

pub loop-at-preserved : goal.loop-at-preserved
loop-at-preserved c = list-on _ _ c.node-node.ensures.tidy c.requires _ _ _ _ _ c.in-Some.is c.loop-at.invariant c.next_sibling-at.ensures.sibling
    c.next_sibling-at.ensures.node c.in_ok-push.ensures

pub returns-clause-children : goal.returns-clause-children
returns-clause-children c = list-end _ _ c.node-node.ensures.tidy c.requires _ _ c.in_default.is c.loop-at.invariant

pub returns-clause-below : goal.returns-clause-below
returns-clause-below c = roots_below _ _ c.node-node.ensures.tidy c.requires

pub returns-clause-read : goal.returns-clause-read
returns-clause-read c = read_below _ _ c.node-node.ensures.tidy c.requires

pub returns-clause-lacking : goal.returns-clause-lacking
returns-clause-lacking c = none_below _ _ c.node-node.ensures.tidy c.requires

pub returns-in_err-push-clause-below : goal.returns-in_err-push-clause-below
returns-in_err-push-clause-below c = roots_below _ _ c.node-node.ensures.tidy c.requires

pub returns-in_err-push-clause-read : goal.returns-in_err-push-clause-read
returns-in_err-push-clause-read c = read_below _ _ c.node-node.ensures.tidy c.requires

pub returns-in_err-push-clause-lacking : goal.returns-in_err-push-clause-lacking
returns-in_err-push-clause-lacking c = none_below _ _ c.node-node.ensures.tidy c.requires
