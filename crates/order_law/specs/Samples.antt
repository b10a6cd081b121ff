-- Two lawful logs, and logs that are not lawful: most are one of the two changed in a place or two, the others short ones of their own.
use Rattle.std.specs.Prelude.{ℕ, zero, suc, List, [], ◌∷◌, ◌++◌, None, Some, codes}
use Rattle.rule_tokens.specs.declared.callback.CallName.TheVariants as names
use Rattle.rule_tokens.specs.declared.callback.CallOrUpgrade.TheVariants.{Call, Upgrade}
use Rattle.ce_events.specs.declared.event.Event.{Event}
use Rattle.ce_events.specs.declared.event.Event.TheVariants.{Attribute, Connected, Disconnected, DrainBegun, Dropped, Enqueued, Fine, Finished}
use Rattle.ce_events.specs.declared.event.Event.TheVariants.{FuelLine, QueueClosed, QueueOpened, Started, UpgradeBegun, UpgradeDone, UpgradeThrew}

-- an upgrade
abbrev pub upgrade : List Event
upgrade =
    QueueOpened 1  -- 0
    ∷ Enqueued 1 3 Upgrade 1
    ∷ DrainBegun 1
    ∷ Started 1
    ∷ UpgradeBegun 3
    ∷ Enqueued 2 3 (Call names.Attribute) 0  -- 5
    ∷ Enqueued 3 3 (Call names.Connected) 0
    ∷ UpgradeDone 3
    ∷ Finished 1
    ∷ Started 2
    ∷ Attribute 3 (codes "k") None (Some (codes "1"))  -- 10
    ∷ Finished 2
    ∷ Started 3
    ∷ Connected 3
    ∷ Finished 3
    ∷ QueueClosed 1  -- 15
    ∷ DrainBegun 0
    ∷ QueueClosed 0
    ∷ Fine 1
    ∷ []

-- an upgrade that throws
abbrev pub throws : List Event
throws =
    QueueOpened 1  -- 0
    ∷ Enqueued 1 3 Upgrade 1
    ∷ DrainBegun 1
    ∷ Started 1
    ∷ UpgradeBegun 3
    ∷ Enqueued 2 3 (Call names.Attribute) 0  -- 5
    ∷ Enqueued 3 3 (Call names.Connected) 0
    ∷ Dropped 2
    ∷ Dropped 3
    ∷ UpgradeThrew 3
    ∷ Finished 1  -- 10
    ∷ QueueClosed 1
    ∷ DrainBegun 0
    ∷ QueueClosed 0
    ∷ Fine 1
    ∷ []

-- the log with these events in the place of the one that stands there
abbrev pub changed : ℕ → List Event → List Event → List Event
changed place events [] = events
changed zero events (e ∷ log) = events ++ log
changed (suc place) events (e ∷ log) = e ∷ changed place events log

-- first clause

abbrev pub number_skipped : List Event
number_skipped = changed 1 (Enqueued 2 3 Upgrade 1 ∷ []) upgrade

abbrev pub number_again : List Event
number_again = changed 6 (Enqueued 2 3 (Call names.Connected) 0 ∷ []) upgrade

abbrev pub queue_skipped : List Event
queue_skipped = changed 0 (QueueOpened 2 ∷ []) upgrade

abbrev pub other_queue : List Event
other_queue = changed 6 (Enqueued 3 3 (Call names.Connected) 1 ∷ []) upgrade

abbrev pub current_queue_passed_over : List Event
current_queue_passed_over = changed 1 (Enqueued 1 3 Upgrade 0 ∷ []) upgrade

-- second clause

abbrev pub start_of_nothing : List Event
start_of_nothing = changed 14 (Finished 3 ∷ Started 4 ∷ Finished 4 ∷ []) upgrade

abbrev pub second_start : List Event
second_start = changed 8 (Finished 1 ∷ Started 1 ∷ Finished 1 ∷ []) upgrade

abbrev pub start_in_upgrade : List Event
start_in_upgrade = changed 6 (Started 2 ∷ []) upgrade

abbrev pub call_outside : List Event
call_outside = changed 8 (Finished 1 ∷ Connected 3 ∷ []) upgrade

abbrev pub call_in_upgrade : List Event
call_in_upgrade = changed 8 (Connected 3 ∷ Finished 1 ∷ []) upgrade

abbrev pub call_of_other_element : List Event
call_of_other_element = changed 13 (Connected 4 ∷ []) upgrade

abbrev pub other_callback : List Event
other_callback = changed 13 (Disconnected 3 ∷ []) upgrade

abbrev pub second_call : List Event
second_call = changed 13 (Connected 3 ∷ Connected 3 ∷ []) upgrade

abbrev pub no_call : List Event
no_call = changed 13 [] upgrade

-- third clause

abbrev pub start_before_lower : List Event
start_before_lower = changed 9 (Started 3 ∷ []) upgrade

abbrev pub drop_before_lower : List Event
drop_before_lower = changed 7 (Dropped 3 ∷ Dropped 2 ∷ []) (changed 8 [] throws)

-- fourth clause

abbrev pub drop_without_throw : List Event
drop_without_throw = changed 9 (Enqueued 4 3 (Call names.Connected) 0 ∷ []) throws

abbrev pub drop_and_no_throw : List Event
drop_and_no_throw = changed 9 (UpgradeDone 3 ∷ []) throws

abbrev pub drop_in_reaction : List Event
drop_in_reaction = changed 4 (Enqueued 2 3 (Call names.Connected) 0 ∷ Dropped 2 ∷ []) throws

abbrev pub drop_in_drain : List Event
drop_in_drain = QueueOpened 1 ∷ Enqueued 1 3 Upgrade 1 ∷ DrainBegun 1 ∷ Dropped 1 ∷ []

abbrev pub throw_with_one_waiting : List Event
throw_with_one_waiting = changed 8 [] throws

-- fifth clause

abbrev pub close_with_one_waiting : List Event
close_with_one_waiting = QueueOpened 1 ∷ Enqueued 1 3 Upgrade 1 ∷ DrainBegun 1 ∷ QueueClosed 1 ∷ []

-- sixth clause

abbrev pub end_around_another : List Event
end_around_another = changed 8 (QueueClosed 1 ∷ []) upgrade

abbrev pub end_of_other_reaction : List Event
end_of_other_reaction = changed 11 (Finished 1 ∷ []) upgrade

abbrev pub end_of_other_upgrade : List Event
end_of_other_upgrade = changed 7 (UpgradeDone 4 ∷ []) upgrade

abbrev pub close_of_other_queue : List Event
close_of_other_queue = changed 15 (QueueClosed 2 ∷ []) upgrade

abbrev pub drain_twice : List Event
drain_twice = changed 2 (DrainBegun 1 ∷ DrainBegun 1 ∷ []) upgrade

abbrev pub checkpoint_in_drain : List Event
checkpoint_in_drain = changed 2 (DrainBegun 1 ∷ DrainBegun 0 ∷ []) upgrade

abbrev pub no_checkpoint : List Event
no_checkpoint = changed 16 [] (changed 17 [] upgrade)

-- seventh clause

abbrev pub second_upgrade : List Event
second_upgrade = changed 7 (UpgradeDone 3 ∷ UpgradeBegun 3 ∷ UpgradeDone 3 ∷ []) upgrade

abbrev pub upgrade_in_drain : List Event
upgrade_in_drain = changed 2 (DrainBegun 1 ∷ UpgradeBegun 4 ∷ UpgradeDone 4 ∷ []) upgrade

abbrev pub callback_after_throw : List Event
callback_after_throw = changed 9 (UpgradeThrew 3 ∷ Enqueued 4 3 (Call names.Connected) 0 ∷ []) throws

-- eighth clause

abbrev pub reply_in_bracket : List Event
reply_in_bracket = QueueOpened 1 ∷ Fine 1 ∷ []

abbrev pub reply_with_one_waiting : List Event
reply_with_one_waiting = Enqueued 1 3 Upgrade 0 ∷ Fine 1 ∷ []

-- and what follows the end of the fuel

abbrev pub behind_fuel : List Event
behind_fuel = changed 18 (FuelLine ∷ Fine 1 ∷ []) upgrade
