use Rattle.std.proofs.Common.{ap, ◌-◌, ◌∙◌}
use Rattle.form_controls.specs.declared.internals.Internals.{Internals}
use Rattle.form_controls.specs.Internals.{new_internals, set_form_value}
use Rattle.element_internals.proofs.Tables.{changed}
use Rattle.element_internals.proofs.values.write_value.Goals as goal

pub returns : goal.returns
returns c =
    changed new_internals c.args.rows.now (c.args.n - 1) c.place.result c.index-rows-place.result c.in-Some.kept
    (λ (i : Internals). record i { value = c.put.new.place; saved = c.put-in-Some.new.place })
    c.requires c.place.ensures c.in-Some.is
    ∙ ap (λ v. set_form_value c.args.rows.now c.args.n v c.put-in-Some.new.place) c.put.ensures
    ∙ ap (λ v. set_form_value c.args.rows.now c.args.n c.args.v v) c.put-in-Some.ensures
