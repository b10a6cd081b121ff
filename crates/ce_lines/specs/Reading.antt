-- Whether an event has these bytes as its text.
use Rattle.std.specs.Prelude.{◌≡◌, ◌≢◌, ℕ, List, Result, Ok, Err}
use Rattle.ce_events.specs.declared.event.Event.{Event}
use Rattle.ce_events.specs.Text.{event_text}
use Rattle.event_reader.specs.declared.refused.EventRefused.{EventRefused}
use Rattle.event_reader.specs.declared.refused.EventRefused.TheVariants as refused

-- the event is handed on where they are its text, and refused where they are not
abbrev pub IsKept : Event → List ℕ → Result Event EventRefused → Type 0
IsKept e bytes (Ok kept) = (kept ≡ e) × (event_text e ≡ bytes)
IsKept e bytes (Err refused.NotAnEvent) = event_text e ≢ bytes
IsKept e bytes (Err refused.NoMemory) = Unit {0}
