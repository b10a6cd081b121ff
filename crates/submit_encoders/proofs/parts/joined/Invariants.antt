use Rattle.std.proofs.Common.{◌≡◌, take, string_bytes}
use Rattle.std.specs.Prelude.{flat_map}
use Rattle.form_submission.specs.Encodings.{part}
use Rattle.submit_encoders.proofs.parts.joined.Given as goal

abbrev pub invariant-loop-e : goal.invariant-loop-e
invariant-loop-e l = string_bytes l.body ≡ flat_map (part l.boundary) (take l.e-index l.e-items)
