use Rattle.std.proofs.Common.{sym, ◌∙◌}
use Rattle.tree_laws.proofs.Climbing.{test-apart, test-same}
use Rattle.tree_laws.proofs.OrderClimb.{climb-below, climb-start, climb-node, climb-end, climb-sibling, climb-on, climb-less, climb-host_there, climb-host_node}
use Rattle.tree_laws.proofs.OrderClimb.{climb-host_child, climb-host, climb-host_less}
use Rattle.tree_laws.proofs.Past.{in_order}
use Rattle.tree_laws.proofs.PastIn.{inside-node}
use Rattle.node_arena.proofs.ShadowOrder.{next-inside, next-node}
use Rattle.node_arena.proofs.tree.Tree.next_in_shadow_order.Goals as goal

pub first_below-below-requires : goal.first_below-below-requires
first_below-below-requires c = inside-node _ _ c.count-count.ensures.tidy c.requires.root _ (in_order _ _ c.requires.inside)

pub returns-then-is_some : goal.returns-then-is_some
returns-then-is_some c =
    let tidy = c.first_below-below.ensures.tidy in
    let is = climb-below c.args.self.now c.args.root c.args.at tidy c.requires.root (in_order _ _ c.requires.inside) _ c.first_below-below.ensures.below
    (sym c.is_some.ensures ∙ c.if-is_some.true) in
    record {
      next = is;
      node = next-node c.args.self.now c.args.root tidy c.requires.root c.args.at _ is;
      inside = next-inside c.args.self.now c.args.root c.args.at _ is;
    }

pub loop-root-init : goal.loop-root-init
loop-root-init c = climb-start c.args.self.now c.args.root c.args.at c.first_below-below.ensures.tidy c.requires.root
    (in_order _ _ c.requires.inside) _ c.first_below-below.ensures.below (sym c.is_some.ensures ∙ c.if-is_some.false)

pub next_sibling-next-requires : goal.next_sibling-next-requires
next_sibling-next-requires c =
    climb-node c.args.self.now c.args.root c.args.at c.first_below-below.ensures.tidy c.requires.root c.loop-root.up c.loop-root.invariant

pub parent-requires : goal.parent-requires
parent-requires c = climb-node c.args.self.now c.args.root c.args.at c.first_below-below.ensures.tidy c.requires.root c.loop-root.up c.loop-root.invariant

pub host-requires : goal.host-requires
host-requires c = climb-node c.args.self.now c.args.root c.args.at c.first_below-below.ensures.tidy c.requires.root c.loop-root.up c.loop-root.invariant

pub returns-then-is_some-2 : goal.returns-then-is_some-2
returns-then-is_some-2 c =
    let tidy = c.first_below-below.ensures.tidy in
    let is = climb-sibling c.args.self.now c.args.root c.args.at tidy c.requires.root c.loop-root.up c.loop-root.invariant
    (test-apart _ _ (sym c.ne.ensures ∙ c.loop-root-test.true)) _ c.next_sibling-next.ensures.sibling
    (sym c.is_some-in-loop-root.ensures ∙ c.if-is_some-2.true) in
    record {
      next = is;
      node = next-node c.args.self.now c.args.root tidy c.requires.root c.args.at _ is;
      inside = next-inside c.args.self.now c.args.root c.args.at _ is;
    }

pub loop-root-smaller-in-Some : goal.loop-root-smaller-in-Some
loop-root-smaller-in-Some c = climb-less c.args.self.now c.args.root c.args.at c.first_below-below.ensures.tidy c.requires.root c.loop-root.up
    c.loop-root.invariant (test-apart _ _ (sym c.ne.ensures ∙ c.loop-root-test.true)) _ c.in-Some.ensures.parent

pub loop-root-preserved-in-Some : goal.loop-root-preserved-in-Some
loop-root-preserved-in-Some c =
    climb-on c.args.self.now c.args.root c.args.at c.first_below-below.ensures.tidy c.requires.root c.loop-root.up c.loop-root.invariant
    (test-apart _ _ (sym c.ne.ensures ∙ c.loop-root-test.true)) _ c.in-Some.ensures.parent _ c.next_sibling-next.ensures.sibling
    (sym c.is_some-in-loop-root.ensures ∙ c.if-is_some-2.false)

pub returns-in_err-host-in-None : goal.returns-in_err-host-in-None
returns-in_err-host-in-None c =
    absurd (climb-host_there c.args.self.now c.args.root c.args.at c.first_below-below.ensures.tidy c.requires.root c.loop-root.up c.loop-root.invariant
    (test-apart _ _ (sym c.ne.ensures ∙ c.loop-root-test.true)) c.in-None.ensures.parent c.in_err-host-in-None.ensures.host)

pub child_of_host-child-requires : goal.child_of_host-child-requires
child_of_host-child-requires c =
    climb-host_node c.args.self.now c.args.root c.args.at c.first_below-below.ensures.tidy c.requires.root c.loop-root.up c.loop-root.invariant
    (test-apart _ _ (sym c.ne.ensures ∙ c.loop-root-test.true)) c.in-None.ensures.parent _ c.in_ok-host-in-None.ensures.host

pub returns-then-is_some-3 : goal.returns-then-is_some-3
returns-then-is_some-3 c =
    let tidy = c.first_below-below.ensures.tidy in
    let is = climb-host_child c.args.self.now c.args.root c.args.at tidy c.requires.root c.loop-root.up c.loop-root.invariant
    (test-apart _ _ (sym c.ne.ensures ∙ c.loop-root-test.true)) c.in-None.ensures.parent _ c.in_ok-host-in-None.ensures.host
    c.child_of_host-child.ensures.lone _ c.child_of_host-child.ensures.child (sym c.is_some-in-None.ensures ∙ c.if-is_some-3.true) in
    record {
      next = is;
      node = next-node c.args.self.now c.args.root tidy c.requires.root c.args.at _ is;
      inside = next-inside c.args.self.now c.args.root c.args.at _ is;
    }

pub loop-root-smaller : goal.loop-root-smaller
loop-root-smaller c = climb-host_less c.args.self.now c.args.root c.args.at c.first_below-below.ensures.tidy c.requires.root c.loop-root.up
    c.loop-root.invariant (test-apart _ _ (sym c.ne.ensures ∙ c.loop-root-test.true)) c.in-None.ensures.parent _ c.in_ok-host-in-None.ensures.host
    c.child_of_host-child.ensures.lone

pub loop-root-preserved : goal.loop-root-preserved
loop-root-preserved c = climb-host c.args.self.now c.args.root c.args.at c.first_below-below.ensures.tidy c.requires.root c.loop-root.up c.loop-root.invariant
    (test-apart _ _ (sym c.ne.ensures ∙ c.loop-root-test.true)) c.in-None.ensures.parent _ c.in_ok-host-in-None.ensures.host c.child_of_host-child.ensures.lone
    _ c.child_of_host-child.ensures.child (sym c.is_some-in-None.ensures ∙ c.if-is_some-3.false)

pub returns-clause-next : goal.returns-clause-next
returns-clause-next c = climb-end c.args.self.now c.args.root c.args.at c.first_below-below.ensures.tidy c.requires.root c.loop-root.up c.loop-root.invariant
    (test-same _ _ (sym c.ne.ensures ∙ c.loop-root-test.false))
