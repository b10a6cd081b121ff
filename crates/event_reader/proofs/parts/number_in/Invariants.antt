use Rattle.std.proofs.Common.{◌≡◌, drop}
use Rattle.event_reader.specs.IsEvent.{IsNumber}
use Rattle.event_reader.specs.Parts.{number_from}
use Rattle.event_reader.proofs.parts.number_in.Given as goal

abbrev pub invariant-loop-b : goal.invariant-loop-b
invariant-loop-b l = (number_from l.n (drop l.b-index l.bytes) ≡ number_from 0 l.bytes) × IsNumber l.n
