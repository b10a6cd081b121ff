-- What the scripts for resets log. Where the trace is not said, it is left out.
use Rattle.ce_events.specs.declared.event.Answer.TheVariants.{One, Truth}
use Rattle.ce_events.specs.declared.event.Event.{Event}
use Rattle.ce_events.specs.declared.event.Event.TheVariants.{Answered, Asked, Connected, Construct, DrainBegun, Enqueued, Fine}
use Rattle.ce_events.specs.declared.event.Event.TheVariants.{Finished, FormAssociated, FormReset, FormStateRestore, Gave, Ignored, Logged}
use Rattle.ce_events.specs.declared.event.Event.TheVariants.{QueueClosed, QueueOpened, Reported, Started, Threw, UpgradeBegun, UpgradeDone}
use Rattle.ce_base.specs.declared.fault.Fault.TheVariants.{TypeError, UserThrow}
use Rattle.reaction_queue.specs.declared.reaction.Mode.TheVariants.{Autocomplete, Restore}
use Rattle.rule_tokens.specs.declared.callback.CallName.TheVariants.{Connected as ConnectedName, FormAssociated as FormAssociatedName}
use Rattle.rule_tokens.specs.declared.callback.CallName.TheVariants.{FormReset as FormResetName}
use Rattle.rule_tokens.specs.declared.callback.CallOrUpgrade.TheVariants.{Call, Upgrade as IsUpgrade}
use Rattle.std.specs.Prelude.{List, None, Some, [], codes, false, true, ◌∷◌}

-- a form that is reset by the user and by a script, with the trace
abbrev pub traced : List Event
traced =
    QueueOpened 1
    ∷ DrainBegun 1
    ∷ QueueClosed 1
    ∷ Gave 1 2
    ∷ QueueOpened 2
    ∷ DrainBegun 2
    ∷ QueueClosed 2
    ∷ Fine 2
    ∷ QueueOpened 3
    ∷ DrainBegun 3
    ∷ QueueClosed 3
    ∷ Gave 3 3
    ∷ QueueOpened 4
    ∷ DrainBegun 4
    ∷ QueueClosed 4
    ∷ Fine 4
    ∷ QueueOpened 5
    ∷ DrainBegun 5
    ∷ QueueClosed 5
    ∷ Gave 5 4
    ∷ QueueOpened 6
    ∷ DrainBegun 6
    ∷ QueueClosed 6
    ∷ Fine 6
    ∷ QueueOpened 7
    ∷ Enqueued 1 4 IsUpgrade 7
    ∷ DrainBegun 7
    ∷ Started 1
    ∷ UpgradeBegun 4
    ∷ Enqueued 2 4 (Call ConnectedName) 0
    ∷ Construct (codes "A")
    ∷ Enqueued 3 4 (Call FormAssociatedName) 0
    ∷ UpgradeDone 4
    ∷ Finished 1
    ∷ Started 2
    ∷ Connected 4
    ∷ Finished 2
    ∷ Started 3
    ∷ FormAssociated 4 (Some 3)
    ∷ Finished 3
    ∷ QueueClosed 7
    ∷ DrainBegun 0
    ∷ QueueClosed 0
    ∷ Fine 12
    ∷ Enqueued 4 4 (Call FormResetName) 0
    ∷ DrainBegun 0
    ∷ Started 4
    ∷ FormReset 4
    ∷ Finished 4
    ∷ QueueClosed 0
    ∷ Fine 13
    ∷ QueueOpened 8
    ∷ Enqueued 5 4 (Call FormResetName) 8
    ∷ DrainBegun 8
    ∷ Started 5
    ∷ FormReset 4
    ∷ Finished 5
    ∷ QueueClosed 8
    ∷ Fine 14
    ∷ []

-- a reset of radio buttons
abbrev pub radios : List Event
radios =
    Gave 1 2
    ∷ Fine 2
    ∷ Gave 3 3
    ∷ Fine 4
    ∷ Gave 5 4
    ∷ Fine 6
    ∷ Fine 7
    ∷ Fine 8
    ∷ Fine 9
    ∷ Gave 10 5
    ∷ Fine 11
    ∷ Answered 12 (Truth false)
    ∷ Answered 13 (Truth true)
    ∷ Fine 14
    ∷ Answered 15 (Truth false)
    ∷ Fine 16
    ∷ Answered 17 (Truth true)
    ∷ []

-- all controls are cleared before one is told, and callbacks that throw
abbrev pub form : List Event
form =
    Fine 6
    ∷ Gave 7 2
    ∷ Construct (codes "A")
    ∷ Gave 8 3
    ∷ Fine 9
    ∷ Gave 10 4
    ∷ Fine 11
    ∷ Gave 12 5
    ∷ Fine 13
    ∷ Gave 14 6
    ∷ Fine 15
    ∷ Fine 16
    ∷ Gave 17 7
    ∷ Fine 18
    ∷ Fine 19
    ∷ Construct (codes "A")
    ∷ Gave 20 8
    ∷ Fine 21
    ∷ Fine 22
    ∷ Fine 23
    ∷ Answered 24 (One (codes "p"))
    ∷ FormReset 3
    ∷ Asked (One [])
    ∷ Reported (UserThrow (codes "r"))
    ∷ FormReset 8
    ∷ Asked (One [])
    ∷ Reported (UserThrow (codes "r"))
    ∷ Fine 25
    ∷ Answered 26 (One (codes "o"))
    ∷ Threw 27 TypeError
    ∷ []

-- a callback that takes out an element that waits, and resets the form again
abbrev pub within : List Event
within =
    Fine 9
    ∷ Gave 10 2
    ∷ Construct (codes "A")
    ∷ Gave 11 3
    ∷ FormAssociated 3 (Some 2)
    ∷ Fine 12
    ∷ Construct (codes "A")
    ∷ Gave 13 4
    ∷ FormAssociated 4 (Some 2)
    ∷ Fine 14
    ∷ Construct (codes "A")
    ∷ Gave 15 5
    ∷ FormAssociated 5 (Some 2)
    ∷ Fine 16
    ∷ FormReset 3
    ∷ FormReset 4
    ∷ FormAssociated 4 None
    ∷ FormReset 3
    ∷ FormReset 5
    ∷ FormReset 5
    ∷ Logged ((codes "end") ∷ [])
    ∷ Fine 17
    ∷ []

-- states that come back or are filled in, and who ignores them
abbrev pub restored : List Event
restored =
    Fine 5
    ∷ Construct (codes "A")
    ∷ Gave 6 2
    ∷ FormStateRestore 2 (codes "s") Restore
    ∷ Logged ((codes "s") ∷ (codes "restore") ∷ [])
    ∷ Fine 7
    ∷ Ignored 8
    ∷ Fine 9
    ∷ FormStateRestore 2 (codes "t") Autocomplete
    ∷ Logged ((codes "t") ∷ (codes "autocomplete") ∷ [])
    ∷ Fine 10
    ∷ Gave 11 3
    ∷ Threw 12 TypeError
    ∷ Threw 13 TypeError
    ∷ []
