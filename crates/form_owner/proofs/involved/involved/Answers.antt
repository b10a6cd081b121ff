use Rattle.std.proofs.Common.{◌∙◌, sym}
use Rattle.form_controls.specs.declared.change.Change.{Change}
use Rattle.form_owner.specs.Writing.{is_moved}
use Rattle.form_owner.proofs.Considering.{next}
use Rattle.form_owner.proofs.involved.involved.Goals as goal

pub loop-i-preserved : goal.loop-i-preserved
loop-i-preserved c =
    next (λ (d : Change) g. is_moved c.args.rows.now d.node d.owner g) c.args.changes.now c.loop-i.i c.unwrap-change.result
    (sym c.get.ensures ∙ c.unwrap-change.ensures) c.loop-i.invariant c.in_ok-involve_both.ensures
