use Rattle.std.proofs.Common.{ap, arith, ◌-◌, ◌∙◌}
use Rattle.std.proofs.lemmas.List.{with_items_is}
use Rattle.form_controls.specs.Controls.{untouched, control_at, change_control}
use Rattle.form_controls.specs.declared.control.Control.{Control}
use Rattle.form_controls.proofs.Filled.{changed-at}
use Rattle.control_state.proofs.table.ControlTable.copy_state.Goals as goal

pub returns : goal.returns
returns c =
    changed-at untouched (c.args.to - 1) c.place.result c.args.self.now c.self.inside.rows.items c.fill.new.rows.items c.deref_mut.result.now
    c.write_state.new.rows _
    (λ (r : Control). record r { value = c.in_ok-value.value; flag = c.flag-flag.result }) c.place.ensures c.self.view_is c.deref_mut.ensures.value
    (with_items_is c.fill.new.rows c.write_state.new.rows (omega (arith, c.write_state.auto.rows, c.deref_mut.ensures.len))) c.in_ok-fill.ensures.same
    c.in_ok-fill.ensures.long c.write_state.ensures
    ∙ ap (λ v. change_control c.args.self.now c.args.to (λ r. record r { value = v; flag = c.flag-flag.result })) (c.in_ok-value.ensures ∙ c.raw.ensures)
    ∙ ap (λ v. change_control c.args.self.now c.args.to (λ r. record r { value = (control_at c.args.self.now c.args.from).value; flag = v }))
    c.flag-flag.ensures
