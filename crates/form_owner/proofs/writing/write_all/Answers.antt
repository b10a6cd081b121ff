use Rattle.std.proofs.Common.{◌∙◌, sym}
use Rattle.form_owner.proofs.Rows.{written-next}
use Rattle.form_owner.proofs.writing.write_all.Goals as goal

pub loop-i-preserved : goal.loop-i-preserved
loop-i-preserved c = written-next c.args.changes.now _ c.loop-i.i c.args.rows.now c.loop-i.rows _
    (sym c.get.ensures ∙ c.unwrap-change.ensures) c.loop-i.invariant c.write.ensures
