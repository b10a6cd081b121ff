use Rattle.std.proofs.Common.{◌≡◌, ◌∙◌, ap, sym, refl, true, false}
use Rattle.node_trees.specs.Orders.{tree_order_of}
use Rattle.control_state.proofs.Walks.{order-starts, order-on, order-less, walk-ends}
use Rattle.control_state.proofs.Texts.{is_blank, still, still-is, still-fails}
use Rattle.control_state.proofs.lengths.is_empty_below.Goals as goal

pub loop-next-init : goal.loop-next-init
loop-next-init c = order-starts _ _ c.count-count.ensures.tidy _ _ c.requires

pub loop-next-smaller : goal.loop-next-smaller
loop-next-smaller c = order-less _ _ c.count-count.ensures.tidy _ _ _ _ _ _ c.loop-next.invariant c.in-Some.is c.next_in_tree-next.ensures.next

pub loop-next-preserved : goal.loop-next-preserved
loop-next-preserved c =
    order-on _ _ c.count-count.ensures.tidy _ _ _ _ _ _ _ c.loop-next.invariant c.in-Some.is c.next_in_tree-next.ensures.next
    (sym c.if-not-is_only_whitespace.false ∙ c.is_only_whitespace.ensures ∙ ap is_blank c.chars.ensures.chars)

pub returns-then-not-is_only_whitespace : goal.returns-then-not-is_only_whitespace
returns-then-not-is_only_whitespace c =
    let failed : false ≡ still c.args.tree.now is_blank true c.in-Some.at =
    sym c.if-not-is_only_whitespace.true ∙ c.is_only_whitespace.ensures ∙ ap is_blank c.chars.ensures.chars in
    still-fails c.args.tree.now is_blank refl c.white_space_is_asked_by_the_piece.ensures (tree_order_of c.args.tree.now c.args.n) _
    (order-on _ _ c.count-count.ensures.tidy _ _ _ _ _ _ _ c.loop-next.invariant c.in-Some.is refl failed)

pub returns : goal.returns
returns c =
    walk-ends _ _ _ _ _ _ c.loop-next.invariant c.in_default.is
    ∙ still-is c.args.tree.now is_blank refl c.white_space_is_asked_by_the_piece.ensures true (tree_order_of c.args.tree.now c.args.n)
