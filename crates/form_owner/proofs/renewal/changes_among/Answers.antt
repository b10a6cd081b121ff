use Rattle.std.proofs.Common.{◌∙◌, ap, nat_eq}
use Rattle.std.specs.Bool.{beq}
use Rattle.std.specs.Option.{option_eq}
use Rattle.form_controls.specs.Changes.{is_change, where_new}
use Rattle.above_reading.specs.declared.readings.Reading.{Reading}
use Rattle.above_reading.specs.Ways.{reading_of}
use Rattle.owner_rows.specs.OwnerRow.{row_of}
use Rattle.form_owner.specs.Reading.{change_read}
use Rattle.form_owner.proofs.Walks.{made-next}
use Rattle.form_owner.proofs.renewal.changes_among.Goals as goal

pub loop-i-preserved : goal.loop-i-preserved
loop-i-preserved c =
    let change =
    c.change_to-change.ensures
    ∙ ap (λ (r : Reading). record {
      node = c.node_at-n.result;
      owner = where_new (option_eq nat_eq) (row_of c.args.rows.now c.node_at-n.result).owner r.owner;
      disabled = where_new beq (row_of c.args.rows.now c.node_at-n.result).disabled r.disabled;
    }) (c.in_ok-reading.ensures.is ∙ ap (reading_of c.args.tree.now c.node_at-n.result) c.associated_in.ensures)
    in
    record {
      known = c.in_ok-reading.ensures.known;
      read = made-next (change_read c.args.tree.now c.args.rows.now) is_change c.args.candidates.now c.loop-i.i c.node_at-n.result c.loop-i.changes _ _
          c.node_at-n.ensures.here c.loop-i.invariant.read change c.in_ok-keep.ensures;
    }
