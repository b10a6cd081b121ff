use Rattle.std.proofs.Common.{All, ap, sym, subst, ◌∙◌}
use Rattle.std.specs.Option.{option_to_list}
use Rattle.std.proofs.lemmas.Result.{IfOk-weaker}
use Rattle.std.proofs.lemmas.List.Elements.{All-filter}
use Rattle.node_trees.specs.Nodes.{IsNode}
use Rattle.form_controls.specs.Options.{is_selected}
use Rattle.control_state.proofs.Listing.{one-nodes}
use Rattle.control_state.proofs.table.ControlTable.chosen.Goals as goal

pub returns-then-is_multiple-clause-nodes : goal.returns-then-is_multiple-clause-nodes
returns-then-is_multiple-clause-nodes c =
    IfOk-weaker c.selected_among.result _ _
    (λ ns is. subst (All (IsNode c.args.tree.now)) (sym is)
    (All-filter (is_selected c.args.self.now c.args.tree.now) (IsNode c.args.tree.now) _ c.in_ok-options.ensures.nodes)) c.selected_among.ensures

pub returns-clause-nodes : goal.returns-clause-nodes
returns-clause-nodes c =
    IfOk-weaker c.list_of.result _ _
    (λ ns is. subst (All (IsNode c.args.tree.now)) (sym (is ∙ ap option_to_list c.chosen_one.ensures))
    (one-nodes c.args.tree.now c.count-count.ensures.tidy c.args.self.now c.args.select c.requires)) c.list_of.ensures
