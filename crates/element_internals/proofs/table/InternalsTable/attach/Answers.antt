use Rattle.std.proofs.Common.{None, Some, arith, rules, ◌-◌}
use Rattle.std.proofs.lemmas.List.{with_items_is}
use Rattle.form_controls.specs.Internals.{new_internals}
use Rattle.element_internals.proofs.Tables.{filled-written}
use Rattle.element_internals.proofs.table.InternalsTable.attach.Goals as goal

pub returns : goal.returns
returns c = (
  search rules,
  filled-written None (c.args.n - 1) c.place-place.result c.args.self.now c.self.inside.rows.items c.fill.new.rows.items c.deref_mut.result.now
      c.write_new.new.rows _
      (Some new_internals) c.place-place.ensures c.self.view_is c.deref_mut.ensures.value
      (with_items_is c.fill.new.rows c.write_new.new.rows (omega (arith, c.write_new.auto.rows, c.deref_mut.ensures.len))) c.in_ok-fill.ensures.same
      c.in_ok-fill.ensures.long c.write_new.ensures,
)
