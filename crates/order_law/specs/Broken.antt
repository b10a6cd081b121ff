-- Which clauses a log breaks.
use Rattle.std.specs.Prelude.{◌≡◌, Bool, true, false, if◌then◌else◌, List, [], ◌∷◌}
use Rattle.ce_events.specs.declared.event.Event.{Event}
use Rattle.order_law.specs.Book.{Book, blank}
use Rattle.order_law.specs.Clauses.{counts_up, runs_once, runs_in_order, drops_by_throw, closes_empty, nests, upgrades_once, replies_at_rest, fuel_is_last}
use Rattle.order_law.specs.After.{after}
use Rattle.order_law.specs.Law.{may_come, is_lawful}

-- the clauses, each by the name of its test
pub data Clause : Type 0 where
  CountsUp : Clause
  RunsOnce : Clause
  RunsInOrder : Clause
  DropsByThrow : Clause
  ClosesEmpty : Clause
  Nests : Clause
  UpgradesOnce : Clause
  RepliesAtRest : Clause
  FuelIsLast : Clause

-- this clause before the others, unless its test holds
abbrev pub unless : Bool → Clause → List Clause → List Clause
unless true clause others = others
unless false clause others = clause ∷ others

-- the clauses that the event breaks
abbrev pub broken_by : Book → Event → List Clause
broken_by b e =
    unless (counts_up b e) CountsUp
    (unless (runs_once b e) RunsOnce
    (unless (runs_in_order b e) RunsInOrder
    (unless (drops_by_throw b e) DropsByThrow
    (unless (closes_empty b e) ClosesEmpty
    (unless (nests b e) Nests
    (unless (upgrades_once b e) UpgradesOnce
    (unless (replies_at_rest b e) RepliesAtRest
    (unless (fuel_is_last b e) FuelIsLast []))))))))

-- the clauses that the first event breaks that may not come; none where each may
abbrev pub first_broken : Book → List Event → List Clause
first_broken b [] = []
first_broken b (e ∷ log) = if may_come b e then first_broken (after b e) log else broken_by b e

-- the log is not lawful, and the first event that may not come breaks these clauses and no others
abbrev pub Breaks : List Clause → List Event → Type 0
Breaks clauses log = (is_lawful blank log ≡ false) × (first_broken blank log ≡ clauses)
