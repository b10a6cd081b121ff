use Rattle.std.proofs.Common.{◌≡◌, length}
use Rattle.body_grammars.specs.Gives.{with_front}
use Rattle.body_grammars.specs.ReadUrl.{read_parts}
use Rattle.body_grammars.proofs.urlencoded.read_parts.Given as goal

abbrev pub invariant-loop-part : goal.invariant-loop-part
invariant-loop-part l = with_front l.entries (read_parts l.rest) ≡ read_parts l.bytes

abbrev pub decreases-loop-part : goal.decreases-loop-part
decreases-loop-part l = length l.rest
