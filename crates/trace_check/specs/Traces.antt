-- A trace: the lines of a log.
use Rattle.std.specs.Prelude.{◌≡◌, ℕ, List, [], ◌∷◌}
use Rattle.ce_events.specs.declared.event.Event.{Event}
use Rattle.ce_events.specs.Text.{event_text}
use Rattle.event_reader.specs.IsEvent.{IsEvent}
use Rattle.order_law.specs.Law.{Lawful}

-- the lines are the texts of the log's events, one by one
abbrev pub IsLog : List (List ℕ) → List Event → Type 0
IsLog [] [] = Unit {0}
IsLog (line ∷ lines) (e ∷ log) = IsEvent e × (event_text e ≡ line) × IsLog lines log
IsLog [] (e ∷ log) = ⊥
IsLog (line ∷ lines) [] = ⊥

-- the lines are those of a lawful log
abbrev pub AreLawful : List (List ℕ) → Type 0
AreLawful lines = (log : List Event) × IsLog lines log × Lawful log
