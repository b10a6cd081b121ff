use Rattle.std.proofs.Common.{ap, ◌∙◌}
use Rattle.std.proofs.lemmas.List.{take_all}
use Rattle.std.specs.Prelude.{flat_map}
use Rattle.form_submission.specs.Encodings.{plain_line}
use Rattle.submit_encoders.proofs.Pieces.{one_more}
use Rattle.submit_encoders.proofs.plain_text.plain.Goals as goal

pub loop-e-preserved : goal.loop-e-preserved
loop-e-preserved c =
    one_more plain_line c.as_slice-e-items.result.now c.loop-e.e-index c.e-item.result _ _ c.loop-e-test.true c.e-item.is c.loop-e.invariant
    c.in_ok-put_line.ensures

pub returns : goal.returns
returns c =
    let all = take_all c.loop-e.e-index c.as_slice-e-items.result.now c.loop-e-test.false ∙ c.as_slice-e-items.ensures.same in
    c.from.ensures ∙ (c.loop-e.invariant ∙ ap (flat_map plain_line) all)
