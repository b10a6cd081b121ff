-- Why bytes are refused where their tokens are.
use Rattle.rule_tokens.specs.declared.refused.LineRefused.{LineRefused}
use Rattle.rule_tokens.specs.declared.refused.LineRefused.TheVariants as line
use Rattle.event_reader.specs.declared.refused.EventRefused.{EventRefused}
use Rattle.event_reader.specs.declared.refused.EventRefused.TheVariants.{NotAnEvent, NoMemory}

abbrev pub refused_for : LineRefused → EventRefused
refused_for (line.Bad b) = NotAnEvent
refused_for line.NoMemory = NoMemory
