use Rattle.std.proofs.Common.{◌≡◌, ◌++◌, ap, ◌∙◌, codes, string_bytes}
use Rattle.std.proofs.lemmas.List.{take_all}
use Rattle.std.specs.Prelude.{flat_map}
use Rattle.form_submission.specs.Encodings.{part}
use Rattle.submit_encoders.proofs.Pieces.{closes, one_more}
use Rattle.submit_encoders.proofs.parts.joined.Goals as goal

pub loop-e-preserved : goal.loop-e-preserved
loop-e-preserved c =
    one_more (part c.args.boundary.now) c.as_slice-e-items.result.now c.loop-e.e-index c.e-item.result _ _ c.loop-e-test.true c.e-item.is c.loop-e.invariant
    c.in_ok-put_part.ensures

pub returns : goal.returns
returns c =
    let boundary = c.args.boundary.now in
    let all = take_all c.loop-e.e-index c.as_slice-e-items.result.now c.loop-e-test.false ∙ c.as_slice-e-items.ensures.same in
    let parts : string_bytes c.loop-e.body ≡ flat_map (part boundary) c.args.list.now = c.loop-e.invariant ∙ ap (flat_map (part boundary)) all in
    c.from.ensures
    ∙ (c.in_ok-push_str.ensures.bytes
    ∙ (ap (λ l. l ++ codes "--\r\n") (c.in_ok-put_delimiter.ensures ∙ ap (λ l. l ++ codes "--" ++ boundary) parts)
    ∙ closes (flat_map (part boundary) c.args.list.now ++ codes "--" ++ boundary)))
