-- What the scripts for form owners and disabled states log, without the trace.
use Rattle.ce_events.specs.declared.event.Answer.TheVariants.{Node as NodeAnswer, Null, Truth}
use Rattle.ce_events.specs.declared.event.Event.{Event}
use Rattle.ce_events.specs.declared.event.Event.TheVariants.{Answered, Construct, Fine, FormAssociated, FormDisabled, Gave}
use Rattle.std.specs.Prelude.{List, None, Some, [], codes, false, true, ◌∷◌}

-- form owners by a `form` attribute, and where its form comes and goes
abbrev pub owner : List Event
owner =
    Gave 1 2
    ∷ Fine 2
    ∷ Gave 3 3
    ∷ Fine 4
    ∷ Fine 8
    ∷ Construct (codes "A")
    ∷ Gave 9 4
    ∷ FormAssociated 4 (Some 3)
    ∷ Fine 10
    ∷ FormAssociated 4 None
    ∷ Fine 11
    ∷ Answered 12 Null
    ∷ Gave 13 5
    ∷ Fine 14
    ∷ FormAssociated 4 (Some 5)
    ∷ Fine 15
    ∷ Gave 16 6
    ∷ Fine 17
    ∷ FormAssociated 4 None
    ∷ Fine 18
    ∷ FormAssociated 4 (Some 5)
    ∷ Fine 19
    ∷ FormAssociated 4 None
    ∷ Fine 20
    ∷ FormAssociated 4 (Some 3)
    ∷ Fine 21
    ∷ Fine 22
    ∷ []

-- a fieldset that is disabled, and its legends
abbrev pub disabled : List Event
disabled =
    Fine 4
    ∷ Gave 5 2
    ∷ Gave 6 3
    ∷ Gave 7 4
    ∷ Construct (codes "A")
    ∷ Gave 8 5
    ∷ Fine 9
    ∷ Fine 10
    ∷ Fine 11
    ∷ FormDisabled 5 true
    ∷ Fine 12
    ∷ FormDisabled 5 false
    ∷ Fine 13
    ∷ Fine 14
    ∷ Fine 15
    ∷ FormDisabled 5 true
    ∷ Fine 16
    ∷ Answered 17 (Truth true)
    ∷ []

-- form owners and disabled states: told at its turn, and after the walk
abbrev pub owner_disabled : List Event
owner_disabled =
    Fine 5
    ∷ Gave 6 2
    ∷ Fine 7
    ∷ Gave 8 3
    ∷ Fine 9
    ∷ Gave 10 4
    ∷ Fine 11
    ∷ Fine 12
    ∷ Construct (codes "A")
    ∷ Gave 13 5
    ∷ Fine 14
    ∷ FormAssociated 5 (Some 4)
    ∷ Fine 15
    ∷ FormAssociated 5 None
    ∷ Fine 16
    ∷ Fine 17
    ∷ FormAssociated 5 (Some 4)
    ∷ Fine 18
    ∷ Fine 19
    ∷ FormAssociated 5 None
    ∷ Fine 20
    ∷ FormAssociated 5 (Some 4)
    ∷ Fine 21
    ∷ Gave 22 6
    ∷ Fine 23
    ∷ Fine 24
    ∷ FormAssociated 5 None
    ∷ FormAssociated 5 (Some 4)
    ∷ FormDisabled 5 true
    ∷ Fine 25
    ∷ Fine 26
    ∷ Answered 27 (NodeAnswer 4)
    ∷ Answered 28 (Truth true)
    ∷ []
