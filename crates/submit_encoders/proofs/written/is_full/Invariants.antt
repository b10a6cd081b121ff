use Rattle.std.proofs.Common.{◌≡◌, length}
use denote.Text.{Utf8}
use denote.Shadow.{shadow}
use Rattle.form_submission.specs.LineEnds.{with_full_newlines}
use Rattle.submit_encoders.proofs.written.is_full.Given as goal

-- the text is sent as it stands, where what is left is
abbrev pub invariant-loop-line : goal.invariant-loop-line
invariant-loop-line l = shadow (Utf8 l.left) × (with_full_newlines l.left ≡ l.left → with_full_newlines l.text ≡ l.text)

abbrev pub decreases-loop-line : goal.decreases-loop-line
decreases-loop-line l = length l.left
