use Rattle.std.proofs.Common.{◌≡◌, ◌++◌, false, string_bytes, length}
use Rattle.std.specs.Prelude.{flat_map}
use denote.Text.{Utf8}
use denote.Shadow.{shadow}
use Rattle.form_submission.specs.Encodings.{escaped_byte}
use Rattle.submit_encoders.specs.Cuts.{has_line_end}
use Rattle.submit_encoders.proofs.written.put_quoted.Given as goal

-- what was put, and then what is left as it is escaped, is the line as it is escaped
abbrev pub invariant-loop-front : goal.invariant-loop-front
invariant-loop-front l =
    shadow (Utf8 l.left) × (has_line_end l.left ≡ false)
    × (string_bytes l.made ++ flat_map escaped_byte l.left ≡ string_bytes l.initial.made ++ flat_map escaped_byte l.line)

abbrev pub decreases-loop-front : goal.decreases-loop-front
decreases-loop-front l = length l.left
