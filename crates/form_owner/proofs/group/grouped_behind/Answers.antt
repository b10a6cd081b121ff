use Rattle.std.proofs.Common.{refl, sym, ◌∙◌}
use Rattle.node_trees.specs.Orders.{tree_order_of}
use Rattle.tree_laws.proofs.Children.{tree_order-apart}
use Rattle.form_owner.specs.Groups.{is_grouped_in}
use Rattle.form_owner.proofs.Groups.{look-here, look-on, look-less, look-last}
use Rattle.form_owner.proofs.group.grouped_behind.Goals as goal

pub loop-next-init : goal.loop-next-init
loop-next-init c = record { among = c.requires.behind; is = refl }

pub next_in_tree-requires-clause-inside : goal.next_in_tree-requires-clause-inside
next_in_tree-requires-clause-inside c = c.loop-next.invariant.among

pub returns-then-is_grouped_with : goal.returns-then-is_grouped_with
returns-then-is_grouped_with c =
    look-here (is_grouped_in c.args.rows.now c.args.tree.now c.args.radio) (tree_order_of c.args.tree.now c.args.root)
    (tree_order-apart _ _ c.requires.tidy) _ _ c.loop-next.invariant _ c.in-Some.ensures.next (sym c.is_grouped_with.ensures ∙ c.if-is_grouped_with.true)

pub loop-next-smaller : goal.loop-next-smaller
loop-next-smaller c = look-less (is_grouped_in c.args.rows.now c.args.tree.now c.args.radio) (tree_order_of c.args.tree.now c.args.root)
    (tree_order-apart _ _ c.requires.tidy) _ _ c.loop-next.invariant _ c.in-Some.ensures.next

pub loop-next-preserved : goal.loop-next-preserved
loop-next-preserved c =
    look-on (is_grouped_in c.args.rows.now c.args.tree.now c.args.radio) (tree_order_of c.args.tree.now c.args.root)
    (tree_order-apart _ _ c.requires.tidy) _ _ c.loop-next.invariant _ c.in-Some.ensures.next (sym c.is_grouped_with.ensures ∙ c.if-is_grouped_with.false)

pub returns : goal.returns
returns c =
    look-last (is_grouped_in c.args.rows.now c.args.tree.now c.args.radio) (tree_order_of c.args.tree.now c.args.root)
    (tree_order-apart _ _ c.requires.tidy) _ _ c.loop-next.invariant (sym c.in_default.is ∙ c.next_in_tree.ensures.next)
