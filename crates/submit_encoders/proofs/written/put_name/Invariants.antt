use Rattle.std.proofs.Common.{◌≡◌, ◌++◌, string_bytes, length}
use denote.Text.{Utf8}
use denote.Shadow.{shadow}
use Rattle.form_submission.specs.Encodings.{escaped}
use Rattle.submit_encoders.proofs.written.put_name.Given as goal

-- what was put, and then what is left as it is escaped, is the name as it is escaped
abbrev pub invariant-loop-line : goal.invariant-loop-line
invariant-loop-line l = shadow (Utf8 l.left) × (string_bytes l.made ++ escaped l.left ≡ string_bytes l.initial.made ++ escaped l.name)

abbrev pub decreases-loop-line : goal.decreases-loop-line
decreases-loop-line l = length l.left
