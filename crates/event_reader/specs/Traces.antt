-- What a line of a trace is read as.
use Rattle.std.specs.Prelude.{ℕ, codes, if◌then◌else◌, List, [], ◌∷◌, Option, Some, None}
use Rattle.std.specs.Option.{option_map}
use Rattle.std.specs.Str.{bytes_eq}
use Rattle.rule_tokens.specs.Callbacks.{call_named}
use Rattle.rule_tokens.specs.declared.callback.CallOrUpgrade.{CallOrUpgrade}
use Rattle.rule_tokens.specs.declared.callback.CallOrUpgrade.TheVariants.{Call, Upgrade}
use Rattle.rule_tokens.specs.declared.token.Token.{Token}
use Rattle.ce_events.specs.declared.event.Event.{Event}
use Rattle.ce_events.specs.declared.event.Event.TheVariants.{QueueOpened, Enqueued, DrainBegun, Started, Finished}
use Rattle.ce_events.specs.declared.event.Event.TheVariants.{Dropped, QueueClosed, UpgradeBegun, UpgradeDone, UpgradeThrew}
use Rattle.event_reader.specs.Parts.{node_in, number_in}

abbrev pub what_named : List ℕ → Option CallOrUpgrade
what_named word = if bytes_eq word (codes "upgrade") then Some Upgrade else option_map Call (call_named word)

abbrev pub enqueued_of : ℕ → List Token → Option Event
enqueued_of r (n ∷ what ∷ q ∷ []) = option_map (λ w. Enqueued r (node_in n.text) w (number_in q.text)) (what_named what.text)
enqueued_of r ts = None

-- a word, the number or the node behind it, and what is behind
abbrev pub trace_by : List ℕ → ℕ → ℕ → List Token → Option Event
trace_by word number n ts =
    if bytes_eq word (codes "open") then Some (QueueOpened number)
    else (if bytes_eq word (codes "enq") then enqueued_of number ts
    else (if bytes_eq word (codes "drain") then Some (DrainBegun number)
    else (if bytes_eq word (codes "start") then Some (Started number)
    else (if bytes_eq word (codes "finish") then Some (Finished number)
    else (if bytes_eq word (codes "drop") then Some (Dropped number)
    else (if bytes_eq word (codes "close") then Some (QueueClosed number)
    else (if bytes_eq word (codes "up") then Some (UpgradeBegun n)
    else (if bytes_eq word (codes "done") then Some (UpgradeDone n)
    else (if bytes_eq word (codes "threw") then Some (UpgradeThrew n)
    else None)))))))))

-- a word, a number or a node, and what is behind
abbrev pub trace_of : List Token → Option Event
trace_of (word ∷ number ∷ ts) = trace_by word.text (number_in number.text) (node_in number.text) ts
trace_of ts = None
