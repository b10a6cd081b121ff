use Rattle.std.proofs.Common.{[], ◌∙◌, ap, refl, sym}
use Rattle.owner_rows.specs.OwnerRow.{row_in}
use Rattle.form_owner.specs.Moves.{stays}
use Rattle.form_owner.proofs.Leaving.{filter-all, left-next, left-owned}
use Rattle.form_owner.proofs.moving.leave_all.Goals as goal

pub loop-i-init : goal.loop-i-init
loop-i-init c = λ j. ap (λ v. record (row_in c.args.rows.now j) { controls = v }) (sym (filter-all (stays []) (row_in c.args.rows.now j).controls (λ m. refl)))

pub leave_where-requires : goal.leave_where-requires
leave_where-requires c = left-owned c.args.rows.now c.loop-i.rows c.args.changes.now c.loop-i.i c.loop-i.invariant c.requires

pub loop-i-preserved : goal.loop-i-preserved
loop-i-preserved c = left-next c.args.rows.now c.loop-i.rows c.args.changes.now c.loop-i.i c.loop-i.invariant c.unwrap-change.result c.leave_where.new.rows
    c.is_some.result (sym c.get.ensures ∙ c.unwrap-change.ensures) c.is_some.ensures c.leave_where.ensures
