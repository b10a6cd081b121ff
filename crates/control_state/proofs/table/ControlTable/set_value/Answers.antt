use Rattle.std.proofs.Common.{Some, arith, ◌-◌}
use Rattle.std.proofs.lemmas.List.{with_items_is}
use Rattle.form_controls.specs.Controls.{untouched}
use Rattle.form_controls.specs.declared.control.Control.{Control}
use Rattle.form_controls.proofs.Filled.{changed-at}
use Rattle.control_state.proofs.table.ControlTable.set_value.Goals as goal

pub returns : goal.returns
returns c =
    changed-at untouched (c.args.n - 1) c.place.result c.args.self.now c.self.inside.rows.items c.fill.new.rows.items c.deref_mut.result.now
    c.write_value.new.rows _
    (λ (r : Control). record r { value = Some c.args.v; edited = c.args.by_user }) c.place.ensures c.self.view_is c.deref_mut.ensures.value
    (with_items_is c.fill.new.rows c.write_value.new.rows (omega (arith, c.write_value.auto.rows, c.deref_mut.ensures.len))) c.in_ok-fill.ensures.same
    c.in_ok-fill.ensures.long c.write_value.ensures
