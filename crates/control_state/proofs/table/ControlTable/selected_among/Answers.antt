use Rattle.form_controls.specs.Options.{is_selected}
use Rattle.ce_base.proofs.Filtered.{filter-next}
use Rattle.control_state.proofs.table.ControlTable.selected_among.Goals as goal

pub loop-i-preserved : goal.loop-i-preserved
loop-i-preserved c =
    filter-next (is_selected c.args.self.now c.args.tree.now) c.args.options.now c.loop-i.i c.node_at-option.result
    c.node_at-option.ensures.here c.loop-i.kept _ c.is_selected-is_kept.result
    c.loop-i.invariant c.is_selected-is_kept.ensures c.in_ok-keep_where.ensures
