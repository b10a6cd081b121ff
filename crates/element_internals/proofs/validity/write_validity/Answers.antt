use Rattle.std.proofs.Common.{◌-◌}
use Rattle.form_controls.specs.declared.internals.Internals.{Internals}
use Rattle.form_controls.specs.Internals.{new_internals}
use Rattle.element_internals.proofs.Tables.{changed}
use Rattle.element_internals.proofs.validity.write_validity.Goals as goal

pub returns : goal.returns
returns c =
    changed new_internals c.args.rows.now (c.args.n - 1) c.place.result c.index-rows-place.result c.in-Some.kept
    (λ (i : Internals). record i { flags = c.args.flags; message = c.args.message })
    c.requires c.place.ensures c.in-Some.is
