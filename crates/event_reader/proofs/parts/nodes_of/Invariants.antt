use Rattle.std.proofs.Common.{◌≡◌, ◌++◌, drop}
use Rattle.event_reader.specs.IsEvent.{AreNumbers}
use Rattle.event_reader.specs.Parts.{nodes_of}
use Rattle.event_reader.proofs.parts.nodes_of.Given as goal

abbrev pub invariant-loop-t : goal.invariant-loop-t
invariant-loop-t l = (l.nodes ++ nodes_of (drop l.t-index l.tokens) ≡ nodes_of l.tokens) × AreNumbers l.nodes
