use Rattle.std.proofs.Common.{◌∙◌, ◌++◌, refl, subst, []}
use Rattle.node_trees.specs.Orders.{tree_order_of}
use Rattle.control_state.specs.Counts.{CountsCollapsed}
use Rattle.control_state.proofs.Walks.{order-starts, order-on, order-less, walk-ends}
use Rattle.control_state.proofs.Texts.{joined, joined-is}
use Rattle.control_state.proofs.lengths.units_below.Goals as goal

pub loop-next-init : goal.loop-next-init
loop-next-init c = record { text = []; walk = order-starts _ _ c.count-count.ensures.tidy _ _ c.requires; counts = c.make-counter.ensures }

pub loop-next-smaller : goal.loop-next-smaller
loop-next-smaller c = order-less _ _ c.count-count.ensures.tidy _ _ _ _ _ _ c.loop-next.invariant.walk c.in-Some.is c.next_in_tree-next.ensures.next

pub loop-next-preserved : goal.loop-next-preserved
loop-next-preserved c = record {
  text = joined c.args.tree.now c.loop-next.invariant.text c.in-Some.at;
  walk = order-on _ _ c.count-count.ensures.tidy _ _ _ _ _ _ _ c.loop-next.invariant.walk c.in-Some.is c.next_in_tree-next.ensures.next refl;
  counts = subst (λ v. CountsCollapsed c.take.new.self (c.loop-next.invariant.text ++ v)) c.chars.ensures.chars
      (c.take.ensures c.loop-next.invariant.text c.loop-next.invariant.counts);
}

pub returns : goal.returns
returns c =
    c.count.ensures _
    (subst (CountsCollapsed c.loop-next.counter) (walk-ends _ _ _ _ _ _ c.loop-next.invariant.walk c.in_default.is
    ∙ joined-is c.args.tree.now (tree_order_of c.args.tree.now c.args.n)) c.loop-next.invariant.counts)
