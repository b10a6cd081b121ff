use Rattle.std.proofs.Common.{◌∙◌, ◌++◌, refl, subst}
use Rattle.node_trees.specs.Spots.{children_at}
use Rattle.control_state.specs.Counts.{CountsNormalized}
use Rattle.control_state.proofs.Walks.{walk-on, walk-less, walk-ends}
use Rattle.control_state.proofs.Texts.{joined, joined-is}
use Rattle.control_state.proofs.lengths.units_of_children.Goals as goal

pub loop-next-smaller : goal.loop-next-smaller
loop-next-smaller c = walk-less _ _ c.count-count.ensures.tidy c.requires _ _ _ _ _ _ c.loop-next.invariant.walk c.in-Some.is
    c.next_sibling-next.ensures.sibling

pub loop-next-preserved : goal.loop-next-preserved
loop-next-preserved c = record {
  text = joined c.args.tree.now c.loop-next.invariant.text c.in-Some.child;
  walk = walk-on _ _ c.count-count.ensures.tidy c.requires _ _ _ _ _ _ _ c.loop-next.invariant.walk c.in-Some.is c.next_sibling-next.ensures.sibling refl;
  counts = subst (λ v. CountsNormalized c.take.new.self (c.loop-next.invariant.text ++ v)) c.chars.ensures.chars
      (c.take.ensures c.loop-next.invariant.text c.loop-next.invariant.counts);
}

pub returns : goal.returns
returns c =
    c.count.ensures _
    (subst (CountsNormalized c.loop-next.counter) (walk-ends _ _ _ _ _ _ c.loop-next.invariant.walk c.in_default.is
    ∙ joined-is c.args.tree.now (children_at c.args.tree.now c.args.n)) c.loop-next.invariant.counts)
