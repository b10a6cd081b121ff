use Rattle.std.proofs.Common.{◌≡◌, ◌+◌, ◌-◌, length}
use Rattle.body_grammars.specs.Gives.{with_front}
use Rattle.body_grammars.specs.ReadParts.{read_tail}
use Rattle.body_grammars.proofs.multipart.read_tail.Given as goal

abbrev pub invariant-loop-i : goal.invariant-loop-i
invariant-loop-i l = with_front l.entries (read_tail (length l.bytes + 1 - l._i) l.boundary l.rest) ≡ read_tail (length l.bytes + 1) l.boundary l.bytes
