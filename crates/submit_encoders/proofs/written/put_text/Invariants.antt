use Rattle.std.proofs.Common.{◌≡◌, ◌++◌, string_bytes, length}
use denote.Text.{Utf8}
use denote.Shadow.{shadow}
use Rattle.form_submission.specs.LineEnds.{with_full_newlines}
use Rattle.submit_encoders.proofs.written.put_text.Given as goal

-- what was put, and then what is left as it is sent, is the text as it is sent
abbrev pub invariant-loop-line : goal.invariant-loop-line
invariant-loop-line l =
    shadow (Utf8 l.left) × (string_bytes l.made ++ with_full_newlines l.left ≡ string_bytes l.initial.made ++ with_full_newlines l.text)

abbrev pub decreases-loop-line : goal.decreases-loop-line
decreases-loop-line l = length l.left
