-- What is logged of a submission.
use Rattle.std.proofs.Common.{◌≡◌, List, [], ◌∷◌, ◌++◌, ap}
use Rattle.ce_events.specs.declared.event.Event.{Event}
use Rattle.ce_algorithms.specs.State.{State, log}
use Rattle.ce_algorithms.specs.Steps.{Goes}

-- an event behind the log is logged
pub event_is_logged : (s : State) (e : Event) (events : List Event) → events ≡ s.log ++ e ∷ [] → Goes tt (record s { log = events }) ≡ log e s
event_is_logged s e events is = ap (λ (l : List Event). Goes tt (record s { log = l })) is
