-- What is guessed of the text of an event.
use Rattle.std.specs.Prelude.{◌≡◌, ℕ, List, Some, Result, Ok, Err}
use Rattle.ce_events.specs.declared.event.Event.{Event}
use Rattle.ce_events.specs.Step.{step_of}
use Rattle.ce_events.specs.Text.{event_text}
use Rattle.event_reader.specs.declared.refused.EventRefused.{EventRefused}
use Rattle.event_reader.specs.declared.refused.EventRefused.TheVariants.{NoMemory}
use Rattle.event_reader.specs.IsEvent.{IsEvent}
use Rattle.event_reader.specs.Reading.{guess}

-- an event with this text, unless memory is refused
abbrev pub IsGuessed : List ℕ → Result Event EventRefused → Type 0
IsGuessed bytes (Ok e) = event_text e ≡ bytes
IsGuessed bytes (Err refused) = refused ≡ NoMemory

-- the text is guessed as that of an event with it, which is the same step to the law of order
pub record IsTextGuessed (e : Event) : Type 0 where
  pub other : Event
  pub read : guess (event_text e) ≡ Some other
  pub same : event_text other ≡ event_text e
  pub step : step_of other ≡ step_of e

abbrev pub TextsAreGuessed : Type 0
TextsAreGuessed = (e : Event) → IsEvent e → IsTextGuessed e
