use Rattle.std.proofs.Common.{ap, ◌-◌, ◌∙◌, Some}
use Rattle.std.specs.Prelude.{slice_set}
use Rattle.form_controls.specs.declared.internals.Internals.{Internals}
use Rattle.form_controls.specs.Internals.{new_internals, with_state}
use Rattle.element_internals.proofs.Tables.{changed}
use Rattle.element_internals.proofs.states.write_state.Goals as goal

pub returns : goal.returns
returns c =
    ap (λ states. slice_set c.args.rows.now c.place.result (Some (record c.in-Some.kept { states = states }))) c.in_ok-add-in-Some.ensures
    ∙ changed new_internals c.args.rows.now (c.args.n - 1) c.place.result c.index-rows-place.result c.in-Some.kept
    (λ (i : Internals). record i { states = with_state i.states c.args.s })
    c.requires c.place.ensures c.in-Some.is
