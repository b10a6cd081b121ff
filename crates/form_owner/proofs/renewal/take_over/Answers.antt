use Rattle.std.proofs.Common.{◌∙◌, ap, arith, length}
use Rattle.std.proofs.lemmas.Result.{on_ok_weaker}
use Rattle.owner_rows.specs.OwnerRow.{row_in}
use Rattle.form_owner.specs.Writing.{with_changes}
use Rattle.form_owner.proofs.Nodes.{changes-placed}
use Rattle.form_owner.proofs.Renewing.{are-renewed, involved-of}
use Rattle.form_owner.proofs.renewal.take_over.Goals as goal

pub write_all-requires : goal.write_all-requires
write_all-requires c = changes-placed c.args.tree.now c.args.rows.now (length c.args.rows.now) c.args.changes.now
    (omega (arith, c.requires.rows)) c.requires.changes

pub returns : goal.returns
returns c =
    on_ok_weaker c.list_controls.result
    (λ listed. are-renewed c.args.tree.now c.count-count.ensures.tidy c.args.rows.now c.write_all.new.rows c.list_controls.new.rows c.in_ok-forms.forms
    (λ i. c.write_all.ensures i ∙ ap (λ cs. with_changes cs i (row_in c.args.rows.now i)) c.requires.changes)
    listed
    (involved-of c.args.tree.now c.args.rows.now c.args.changes.now _ _ c.requires.changes c.in_ok-forms.ensures.list c.in_ok-involved.ensures)
    c.requires.lists) c.list_controls.ensures
