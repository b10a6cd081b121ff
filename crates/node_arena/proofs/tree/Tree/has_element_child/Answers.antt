use Rattle.std.proofs.Common.{refl, sym, ◌∙◌}
use Rattle.tree_laws.proofs.Siblings.{child-is_node, children-less, seek-start, seek-found, seek-on, seek-end}
use Rattle.node_arena.proofs.tree.Tree.has_element_child.Goals as goal

pub loop-at-init : goal.loop-at-init
loop-at-init c = seek-start _ _ c.node-node.ensures.tidy c.requires _ c.node-node.ensures.first_is c.node-node.ensures.first

pub is_element-requires : goal.is_element-requires
is_element-requires c = child-is_node _ _ c.node-node.ensures.tidy c.requires _ _ c.in-Some.is c.loop-at.invariant.child

pub next_sibling-at-requires : goal.next_sibling-at-requires
next_sibling-at-requires c = child-is_node _ _ c.node-node.ensures.tidy c.requires _ _ c.in-Some.is c.loop-at.invariant.child

pub loop-at-smaller : goal.loop-at-smaller
loop-at-smaller c = children-less _ _ c.node-node.ensures.tidy c.requires _ _ c.in-Some.is c.loop-at.invariant.child _ c.next_sibling-at.ensures.sibling

pub returns-then-is_element : goal.returns-then-is_element
returns-then-is_element c = seek-found _ _ c.node-node.ensures.tidy c.requires _ _ c.in-Some.is c.loop-at.invariant _ refl
    (sym c.is_element.ensures ∙ c.if-is_element.true)

pub loop-at-preserved : goal.loop-at-preserved
loop-at-preserved c = seek-on _ _ c.node-node.ensures.tidy c.requires _ _ c.in-Some.is c.loop-at.invariant _ c.next_sibling-at.ensures.sibling
    (sym c.is_element.ensures ∙ c.if-is_element.false) c.next_sibling-at.ensures.node

pub returns : goal.returns
returns c = seek-end _ _ c.node-node.ensures.tidy c.requires _ c.in_default.is c.loop-at.invariant
