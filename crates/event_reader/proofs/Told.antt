-- The tokens of an event's line, and what they are read as.
use Rattle.std.proofs.Common.{◌≡◌, List, Some, None}
use Rattle.rule_tokens.specs.declared.token.Token.{Token}
use Rattle.rule_tokens.specs.Spaced.{AreClean, IsLine, as_line}
use Rattle.ce_events.specs.declared.event.Event.{Event}
use Rattle.ce_events.specs.Step.{step_of}
use Rattle.ce_events.specs.Text.{event_text}
use Rattle.event_reader.specs.Reading.{class_in, event_of}

-- the event's line is these tokens, and no constructor's; they are read as an event with the same text, of the same step
pub record IsTold (e : Event) : Type 0 where
  pub tokens : List Token
  pub line : event_text e ≡ as_line tokens
  pub clean : AreClean tokens
  pub begins : IsLine tokens
  pub no_class : class_in (event_text e) ≡ None
  pub other : Event
  pub read : event_of tokens ≡ Some other
  pub same : event_text other ≡ event_text e
  pub step : step_of other ≡ step_of e
