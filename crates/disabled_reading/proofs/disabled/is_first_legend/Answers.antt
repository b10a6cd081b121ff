use Rattle.std.proofs.Common.{sym, ◌∙◌}
use Rattle.element_names.specs.declared.natives.Native.TheVariants.{Legend}
use Rattle.node_trees.specs.Spots.{children_at}
use Rattle.form_controls.specs.Kinds.{is_a}
use Rattle.disabled_reading.proofs.Legends.{find-other}
use Rattle.disabled_reading.proofs.disabled.is_first_legend.Goals as goal

pub returns-else-is_a : goal.returns-else-is_a
returns-else-is_a c = c.if-is_a.false
    ∙ sym (find-other (is_a Legend c.args.tree.now) (children_at c.args.tree.now c.args.fieldset) c.args.child (sym c.is_a.ensures ∙ c.if-is_a.false))
