use Rattle.std.proofs.Common.{◌∙◌, ◌++◌, ap, sym, subst, [], Some}
use Rattle.std.specs.String.{string_bytes}
use Rattle.node_trees.specs.Orders.{tree_order_of}
use Rattle.control_state.proofs.Walks.{Walks, order-starts, order-on, order-less, walk-ends}
use Rattle.control_state.proofs.Texts.{joined, joined-is}
use Rattle.control_state.proofs.values.text_below.Goals as goal

pub loop-next-init : goal.loop-next-init
loop-next-init c =
    subst (λ v. Walks c.args.tree.now (tree_order_of c.args.tree.now c.args.n) (joined c.args.tree.now) [] v (Some c.args.n)) (sym c.new-text.ensures.bytes)
    (order-starts _ _ c.count-count.ensures.tidy _ _ c.requires)

pub loop-next-smaller : goal.loop-next-smaller
loop-next-smaller c = order-less _ _ c.count-count.ensures.tidy _ _ _ _ _ _ c.loop-next.invariant c.in-Some.is c.next_in_tree-next.ensures.next

pub loop-next-preserved : goal.loop-next-preserved
loop-next-preserved c =
    order-on _ _ c.count-count.ensures.tidy _ _ _ _ _ _ _ c.loop-next.invariant c.in-Some.is c.next_in_tree-next.ensures.next
    (c.in_ok-push_str.ensures.bytes ∙ ap (λ v. string_bytes c.loop-next.text ++ v) c.chars.ensures.chars)

pub returns : goal.returns
returns c = c.from.ensures ∙ (walk-ends _ _ _ _ _ _ c.loop-next.invariant c.in_default.is ∙ joined-is c.args.tree.now (tree_order_of c.args.tree.now c.args.n))
