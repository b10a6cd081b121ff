-- What the scripts for internals log, without the trace.
use Rattle.ce_events.specs.declared.event.Answer.TheVariants.{Many, Null, One, State as StateAnswer, Texts}
use Rattle.ce_events.specs.declared.event.Event.{Event}
use Rattle.ce_events.specs.declared.event.Event.TheVariants.{Answered, Asked, Caught, Construct, Fine, FormStateRestore, Gave, Threw}
use Rattle.ce_base.specs.declared.custom_state.CustomState.TheVariants.{Custom, Precustomized}
use Rattle.ce_base.specs.declared.fault.Fault.TheVariants.{NotSupportedError, ReferenceError, TypeError}
use Rattle.reaction_queue.specs.declared.reaction.Mode.TheVariants.{Restore}
use Rattle.std.specs.Prelude.{List, [], codes, ◌∷◌}

-- who gets internals and who does not, a custom state, and a state that comes back
abbrev pub refused : List Event
refused =
    Fine 4
    ∷ Gave 5 2
    ∷ Threw 6 NotSupportedError
    ∷ Construct (codes "A")
    ∷ Gave 7 3
    ∷ Threw 8 TypeError
    ∷ Fine 9
    ∷ Threw 10 NotSupportedError
    ∷ Fine 11
    ∷ Answered 12 (Texts ((codes "hi") ∷ []))
    ∷ Fine 14
    ∷ Construct (codes "B")
    ∷ Gave 15 4
    ∷ Fine 16
    ∷ Threw 17 NotSupportedError
    ∷ FormStateRestore 3 (codes "s1") Restore
    ∷ Fine 18
    ∷ []

-- submission values, their states, and custom states
abbrev pub values : List Event
values =
    Fine 3
    ∷ Construct (codes "A")
    ∷ Gave 4 2
    ∷ Answered 5 Null
    ∷ Fine 6
    ∷ Answered 7 Null
    ∷ Fine 8
    ∷ Answered 9 (One (codes "b"))
    ∷ Fine 10
    ∷ Answered 11 (One (codes "c"))
    ∷ Fine 12
    ∷ Answered 13 Many
    ∷ Fine 14
    ∷ Answered 15 Null
    ∷ Fine 16
    ∷ Fine 17
    ∷ Fine 18
    ∷ Fine 19
    ∷ Fine 20
    ∷ Answered 21 (Texts ((codes "t") ∷ (codes "s") ∷ []))
    ∷ Fine 22
    ∷ Answered 23 (Texts [])
    ∷ []

-- internals that constructors attach, in an upgrade, a creation and a clone
abbrev pub attached : List Event
attached =
    Gave 8 2
    ∷ Fine 9
    ∷ Gave 10 3
    ∷ Fine 11
    ∷ Threw 12 NotSupportedError
    ∷ Construct (codes "A")
    ∷ Caught ReferenceError
    ∷ Asked (StateAnswer Precustomized)
    ∷ Fine 13
    ∷ Answered 14 (One (codes "v"))
    ∷ Construct (codes "A")
    ∷ Caught ReferenceError
    ∷ Asked (StateAnswer Custom)
    ∷ Gave 15 4
    ∷ Fine 19
    ∷ Construct (codes "B")
    ∷ Gave 20 5
    ∷ Threw 21 NotSupportedError
    ∷ Construct (codes "A")
    ∷ Caught ReferenceError
    ∷ Asked (StateAnswer Precustomized)
    ∷ Gave 22 6
    ∷ Answered 23 (Texts [])
    ∷ []
