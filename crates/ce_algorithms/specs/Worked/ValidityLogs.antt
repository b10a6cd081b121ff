-- What the scripts for constraint validation log, without the trace.
use Rattle.ce_base.specs.declared.fault.Fault.TheVariants.{TypeError}
use Rattle.ce_base.specs.declared.flags.Flags.{Flags}
use Rattle.ce_events.specs.declared.event.Answer.TheVariants.{One, Raised, Truth}
use Rattle.ce_events.specs.declared.event.Event.{Event}
use Rattle.ce_events.specs.declared.event.Event.TheVariants.{Answered, Construct, Fine, Gave, Threw}
use Rattle.form_controls.specs.Internals.{flags_of, no_flags}
use Rattle.std.specs.Prelude.{Bool, List, [], codes, false, true, ◌∷◌}

-- the flags that an element of HTML can have
abbrev native : Bool → Bool → Bool → Bool → Flags
native missing long short custom = flags_of (missing ∷ false ∷ false ∷ long ∷ short ∷ false ∷ false ∷ false ∷ false ∷ custom ∷ [])

-- a text that is missing, too short, too long, and has a custom message
abbrev pub texts : List Event
texts =
    Gave 1 2
    ∷ Gave 2 3
    ∷ Fine 3
    ∷ Fine 4
    ∷ Answered 5 (Raised (native true false false false))
    ∷ Fine 6
    ∷ Fine 7
    ∷ Answered 8 (Raised (native false false true false))
    ∷ Fine 9
    ∷ Answered 10 (Raised (native false true true false))
    ∷ Fine 11
    ∷ Answered 12 (Raised no_flags)
    ∷ Fine 13
    ∷ Answered 14 (Raised (native false false false true))
    ∷ Answered 15 (One (codes "no good"))
    ∷ Fine 16
    ∷ Answered 17 (Truth false)
    ∷ Answered 18 (Raised (native false false false true))
    ∷ Threw 19 TypeError
    ∷ []

-- an element's own flags, which want internals, and a message where one is set
abbrev pub internals : List Event
internals =
    Fine 3
    ∷ Construct (codes "A")
    ∷ Gave 4 2
    ∷ Threw 5 TypeError
    ∷ Answered 6 (Raised no_flags)
    ∷ Fine 7
    ∷ Threw 8 TypeError
    ∷ Fine 9
    ∷ Answered 10 (Raised (native true true false false))
    ∷ Answered 11 (One (codes "fill in"))
    ∷ Fine 12
    ∷ Answered 13 (Raised no_flags)
    ∷ Answered 14 (One [])
    ∷ Construct (codes "A")
    ∷ Gave 15 3
    ∷ []
