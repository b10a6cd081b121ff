use Rattle.std.proofs.Common.{◌≡◌}
use Rattle.rule_reader.specs.Pieces.{around, form_at, form_of}
use Rattle.rule_reader.proofs.pieces.form_of.Given as goal

abbrev pub invariant-left : goal.invariant-left
invariant-left l = around l.wraps (form_at l.left l.rest) ≡ form_of l.tokens

abbrev pub decreases-left : goal.decreases-left
decreases-left l = l.left
