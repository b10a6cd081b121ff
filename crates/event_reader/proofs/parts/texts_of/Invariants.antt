use Rattle.std.proofs.Common.{◌≡◌, ◌++◌, drop}
use Rattle.event_reader.specs.IsEvent.{AreTexts}
use Rattle.event_reader.specs.Parts.{texts_of}
use Rattle.event_reader.proofs.parts.texts_of.Given as goal

abbrev pub invariant-loop-t : goal.invariant-loop-t
invariant-loop-t l = (l.texts ++ texts_of (drop l.t-index l.tokens) ≡ texts_of l.tokens) × AreTexts l.texts
