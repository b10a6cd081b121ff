use Rattle.std.proofs.Common.{◌≡◌, length}
use Rattle.body_grammars.specs.Gives.{with_front}
use Rattle.body_grammars.specs.ReadPlain.{plain_entries}
use Rattle.body_grammars.proofs.plain.read_lines.Given as goal

abbrev pub invariant-loop-part : goal.invariant-loop-part
invariant-loop-part l = with_front l.entries (plain_entries l.rest) ≡ plain_entries l.bytes

abbrev pub decreases-loop-part : goal.decreases-loop-part
decreases-loop-part l = length l.rest
