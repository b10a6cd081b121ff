-- What the text of an event tells of its step.
use Rattle.std.specs.Prelude.{◌≡◌}
use Rattle.ce_events.specs.declared.event.Event.{Event}
use Rattle.ce_events.specs.Step.{step_of}
use Rattle.ce_events.specs.Text.{event_text}
use Rattle.event_reader.specs.IsEvent.{IsEvent}

-- two events with one text are one step to the law of order
abbrev pub TextsTellSteps : Type 0
TextsTellSteps = (e f : Event) → IsEvent e → IsEvent f → event_text e ≡ event_text f → step_of e ≡ step_of f
