use Rattle.std.proofs.Common.{◌≡◌, [], map, take}
use Rattle.form_urlencoded.specs.Form.{extend_pairs}
use Rattle.form_submission.specs.Encodings.{pair_of}
use Rattle.submit_encoders.proofs.pairs.serialized.Given as goal

abbrev pub invariant-loop-e : goal.invariant-loop-e
invariant-loop-e l = (l.form.prefix ≡ []) × (l.form.form ≡ extend_pairs [] (map pair_of (take l.e-index l.list)))
