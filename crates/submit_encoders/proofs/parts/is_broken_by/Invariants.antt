use Rattle.std.proofs.Common.{◌≡◌, drop}
use Rattle.form_submission.specs.Encodings.{is_broken_by}
use Rattle.submit_encoders.proofs.parts.is_broken_by.Given as goal

abbrev pub invariant-loop-e : goal.invariant-loop-e
invariant-loop-e l = is_broken_by (drop l.e-index l.list) l.boundary ≡ is_broken_by l.list l.boundary
