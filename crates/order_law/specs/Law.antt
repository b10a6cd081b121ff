-- The law of order: what a log may say, without a word of the algorithms. The log is read once, from its first event on.
use Rattle.std.specs.Prelude.{◌≡◌, Bool, true, ◌&&◌, List, [], ◌∷◌}
use Rattle.ce_events.specs.declared.event.Event.{Event}
use Rattle.order_law.specs.Book.{Book, blank}
use Rattle.order_law.specs.Clauses.{counts_up, runs_once, runs_in_order, drops_by_throw, closes_empty, nests, upgrades_once, replies_at_rest, fuel_is_last}
use Rattle.order_law.specs.After.{after}

-- the event keeps each clause
abbrev pub may_come : Book → Event → Bool
may_come b e =
    counts_up b e && (runs_once b e && (runs_in_order b e && (drops_by_throw b e && (closes_empty b e && (nests b e
    && (upgrades_once b e && (replies_at_rest b e && fuel_is_last b e)))))))

-- the book after a log
abbrev pub read : Book → List Event → Book
read b [] = b
read b (e ∷ log) = read (after b e) log

abbrev pub is_lawful : Book → List Event → Bool
is_lawful b [] = true
is_lawful b (e ∷ log) = may_come b e && is_lawful (after b e) log

-- a lawful log; it may end anywhere
abbrev pub Lawful : List Event → Type 0
Lawful log = is_lawful blank log ≡ true
