-- What holds of an event that is handed on.
use Rattle.std.proofs.Common.{ℕ, List, Result, Ok, Err, sym, subst}
use Rattle.std.specs.Prelude.{IfOk}
use Rattle.ce_events.specs.declared.event.Event.{Event}
use Rattle.event_reader.specs.declared.refused.EventRefused.{EventRefused}
use Rattle.event_reader.specs.IsEvent.{IsEvent}
use Rattle.ce_lines.specs.Reading.{IsKept}

pub kept_event : (e : Event) (bytes : List ℕ) (r : Result Event EventRefused) → IsKept e bytes r → IsEvent e → IfOk r IsEvent
kept_event e bytes (Ok k) kept is = subst IsEvent (sym kept.0) is
kept_event e bytes (Err refused) kept is = tt

pub ruleset kept_events = (kept_event)
