use Rattle.std.proofs.Common.{◌∙◌, ◌++◌, ap}
use Rattle.std.specs.String.{string_bytes}
use Rattle.node_trees.specs.Spots.{children_at}
use Rattle.control_state.proofs.Walks.{walk-on, walk-less, walk-ends}
use Rattle.control_state.proofs.Texts.{joined-is}
use Rattle.control_state.proofs.values.child_text.Goals as goal

pub loop-next-smaller : goal.loop-next-smaller
loop-next-smaller c = walk-less _ _ c.count-count.ensures.tidy c.requires _ _ _ _ _ _ c.loop-next.invariant c.in-Some.is c.next_sibling-next.ensures.sibling

pub loop-next-preserved : goal.loop-next-preserved
loop-next-preserved c =
    walk-on _ _ c.count-count.ensures.tidy c.requires _ _ _ _ _ _ _ c.loop-next.invariant c.in-Some.is c.next_sibling-next.ensures.sibling
    (c.in_ok-push_str.ensures.bytes ∙ ap (λ v. string_bytes c.loop-next.text ++ v) c.chars.ensures.chars)

pub returns : goal.returns
returns c = c.from.ensures ∙ (walk-ends _ _ _ _ _ _ c.loop-next.invariant c.in_default.is ∙ joined-is c.args.tree.now (children_at c.args.tree.now c.args.n))
