use Rattle.std.proofs.Common.{sym, ◌∙◌}
use Rattle.tree_laws.proofs.Climbing.{climb-child, climb-start, climb-node, climb-end, climb-sibling, climb-on, climb-less, climb-parent, test-apart, test-same}
use Rattle.tree_laws.proofs.Children.{next-inside, next-node}
use Rattle.tree_laws.proofs.InOrder.{member_is_node}
use Rattle.node_arena.proofs.tree.Tree.next_in_tree.Goals as goal

pub first_child-child-requires : goal.first_child-child-requires
first_child-child-requires c = member_is_node _ _ _ c.count-count.ensures.tidy c.requires.inside

pub returns-then-is_some : goal.returns-then-is_some
returns-then-is_some c =
    let tidy = c.count-count.ensures.tidy in
    let is = climb-child _ _ _ tidy c.requires.root _ c.requires.inside c.first_child-child.ensures.child (sym c.is_some.ensures ∙ c.if-is_some.true) in
    record { next = is; node = next-node _ _ tidy _ _ is; inside = next-inside _ _ tidy _ _ is }

pub loop-root-init : goal.loop-root-init
loop-root-init c =
    let tidy = c.count-count.ensures.tidy in
    record {
      tidy = tidy;
      climbing =
          climb-start _ _ _ tidy c.requires.root _ c.requires.inside c.first_child-child.ensures.child (sym c.is_some.ensures ∙ c.if-is_some.false);
    }

pub next_sibling-next-requires : goal.next_sibling-next-requires
next_sibling-next-requires c = climb-node _ _ _ c.loop-root.invariant.tidy c.requires.root _ c.loop-root.invariant.climbing

pub returns-then-is_some-2 : goal.returns-then-is_some-2
returns-then-is_some-2 c =
    let tidy = c.loop-root.invariant.tidy in
    let is = climb-sibling _ _ _ tidy c.requires.root _ c.loop-root.invariant.climbing
    (test-apart _ _ (sym c.ne.ensures ∙ c.loop-root-test.true)) _ c.next_sibling-next.ensures.sibling
    (sym c.is_some-in-loop-root.ensures ∙ c.if-is_some-2.true) in
    record { next = is; node = next-node _ _ tidy _ _ is; inside = next-inside _ _ tidy _ _ is }

pub parent-requires : goal.parent-requires
parent-requires c = climb-node _ _ _ c.loop-root.invariant.tidy c.requires.root _ c.loop-root.invariant.climbing

pub loop-root-smaller : goal.loop-root-smaller
loop-root-smaller c = climb-less _ _ _ c.loop-root.invariant.tidy c.requires.root _ c.loop-root.invariant.climbing
    (test-apart _ _ (sym c.ne.ensures ∙ c.loop-root-test.true)) _ c.in-Some.ensures.parent

pub loop-root-preserved : goal.loop-root-preserved
loop-root-preserved c =
    let tidy = c.loop-root.invariant.tidy in
    record {
      tidy = tidy;
      climbing = climb-on _ _ _ tidy c.requires.root _ c.loop-root.invariant.climbing
          (test-apart _ _ (sym c.ne.ensures ∙ c.loop-root-test.true)) _ _ c.next_sibling-next.ensures.sibling
          (sym c.is_some-in-loop-root.ensures ∙ c.if-is_some-2.false) c.in-Some.ensures.parent;
    }

pub returns-in-None : goal.returns-in-None
returns-in-None c = absurd (climb-parent _ _ _ c.loop-root.invariant.tidy c.requires.root _ c.loop-root.invariant.climbing
    (test-apart _ _ (sym c.ne.ensures ∙ c.loop-root-test.true)) c.in-None.ensures.parent)

pub returns-clause-next : goal.returns-clause-next
returns-clause-next c = climb-end _ _ _ c.loop-root.invariant.tidy c.requires.root _ c.loop-root.invariant.climbing
    (test-same _ _ (sym c.ne.ensures ∙ c.loop-root-test.false))
