use Rattle.std.proofs.Common.{sym, ◌∙◌, ap, cond, Some}
use Rattle.std.specs.Prelude.{find}
use Rattle.node_trees.specs.Orders.{tree_order_of}
use Rattle.tree_laws.proofs.Children.{among-root, order-begins}
use Rattle.form_owner.specs.Groups.{all_after, is_grouped_in}
use Rattle.form_owner.proofs.Groups.{find-first}
use Rattle.form_owner.proofs.group.first_grouped.Goals as goal

pub returns-then-is_grouped_with : goal.returns-then-is_grouped_with
returns-then-is_grouped_with c =
    let it = order-begins c.args.tree.now c.args.root c.requires.tidy c.requires.root in
    sym (find-first (is_grouped_in c.args.rows.now c.args.tree.now c.args.radio) c.args.root (tree_order_of c.args.tree.now c.args.root) it.rest it.is
    ∙ ap (λ b. cond b (Some c.args.root)
    (find (is_grouped_in c.args.rows.now c.args.tree.now c.args.radio) (all_after c.args.root (tree_order_of c.args.tree.now c.args.root))))
    (sym c.is_grouped_with.ensures ∙ c.if-is_grouped_with.true))

pub grouped_behind-requires-clause-behind : goal.grouped_behind-requires-clause-behind
grouped_behind-requires-clause-behind c = among-root c.args.tree.now c.args.root c.requires.tidy c.requires.root

pub returns : goal.returns
returns c =
    let it = order-begins c.args.tree.now c.args.root c.requires.tidy c.requires.root in
    c.grouped_behind.ensures
    ∙ sym (find-first (is_grouped_in c.args.rows.now c.args.tree.now c.args.radio) c.args.root (tree_order_of c.args.tree.now c.args.root) it.rest it.is
    ∙ ap (λ b. cond b (Some c.args.root)
    (find (is_grouped_in c.args.rows.now c.args.tree.now c.args.radio) (all_after c.args.root (tree_order_of c.args.tree.now c.args.root))))
    (sym c.is_grouped_with.ensures ∙ c.if-is_grouped_with.false))
