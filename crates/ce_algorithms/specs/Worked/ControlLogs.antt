-- What the scripts for controls log, without the trace.
use Rattle.ce_base.specs.declared.fault.Fault.TheVariants.{TypeError}
use Rattle.ce_events.specs.declared.event.Answer.TheVariants.{One, Truth}
use Rattle.ce_events.specs.declared.event.Event.{Event}
use Rattle.ce_events.specs.declared.event.Event.TheVariants.{Answered, Fine, Gave, Ignored, Threw}
use Rattle.std.specs.Prelude.{List, [], codes, false, true, ◌∷◌}

-- radio buttons of a group, as they are inserted, cloned and set
abbrev pub radios : List Event
radios =
    Gave 1 2
    ∷ Fine 2
    ∷ Gave 3 3
    ∷ Fine 4
    ∷ Fine 5
    ∷ Fine 6
    ∷ Fine 7
    ∷ Gave 8 4
    ∷ Fine 9
    ∷ Answered 10 (Truth false)
    ∷ Answered 11 (Truth true)
    ∷ Fine 12
    ∷ Answered 13 (Truth false)
    ∷ Fine 14
    ∷ Ignored 15
    ∷ Answered 16 (Truth true)
    ∷ Threw 17 TypeError
    ∷ []

-- the value of a textarea: its texts, what the user sets, and what a clone takes over
abbrev pub texts : List Event
texts =
    Gave 1 2
    ∷ Gave 2 3
    ∷ Fine 3
    ∷ Answered 4 (One (97 ∷ 10 ∷ 98 ∷ 10 ∷ 99 ∷ []))
    ∷ Fine 5
    ∷ Gave 6 4
    ∷ Answered 7 (One (112 ∷ 10 ∷ 113 ∷ []))
    ∷ Fine 8
    ∷ Ignored 9
    ∷ Fine 10
    ∷ Answered 11 (One (codes "z"))
    ∷ Answered 12 (One (112 ∷ 10 ∷ 113 ∷ []))
    ∷ []

-- the value of a select: its options, and which of them is chosen
abbrev pub options : List Event
options =
    Gave 1 2
    ∷ Gave 2 3
    ∷ Gave 3 4
    ∷ Fine 4
    ∷ Fine 5
    ∷ Fine 6
    ∷ Gave 7 5
    ∷ Fine 8
    ∷ Answered 9 (One (codes "two words"))
    ∷ Fine 10
    ∷ Answered 11 (One (codes "v"))
    ∷ Fine 12
    ∷ Fine 13
    ∷ Answered 14 (One (codes "two words"))
    ∷ Fine 15
    ∷ Fine 16
    ∷ Ignored 17
    ∷ Threw 18 TypeError
    ∷ []
