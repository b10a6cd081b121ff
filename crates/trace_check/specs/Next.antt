-- The book after a line.
use Rattle.std.specs.Prelude.{◌≡◌, ℕ, true, false, List, Option, Some, None}
use Rattle.ce_events.specs.declared.event.Event.{Event}
use Rattle.ce_events.specs.Text.{event_text}
use Rattle.event_reader.specs.IsEvent.{IsEvent}
use Rattle.order_law.specs.After.{after}
use Rattle.order_law.specs.Book.{Book}
use Rattle.order_law.specs.Law.{may_come}

-- the event may come, and this is the book after it; or it may not
abbrev pub IsAfterEvent : Book → Event → Option Book → Type 0
IsAfterEvent b e None = may_come b e ≡ false
IsAfterEvent b e (Some next) = (may_come b e ≡ true) × (next ≡ after b e)

-- no event with this text may come
abbrev pub NoneMayCome : Book → List ℕ → Type 0
NoneMayCome b line = (e : Event) → IsEvent e → event_text e ≡ line → may_come b e ≡ false

-- an event with this text may come, and this is the book after it; or none may
abbrev pub IsAfterLine : Book → List ℕ → Option Book → Type 0
IsAfterLine b line None = NoneMayCome b line
IsAfterLine b line (Some next) = (e : Event) × IsEvent e × (event_text e ≡ line) × (may_come b e ≡ true) × (next ≡ after b e)
