-- Words about places in a log, for laws that are told without the book.
use Rattle.std.specs.Prelude.{◌≡◌, ◌⊎◌, ℕ, ◌+◌, ◌≤◌, Bool, true, false, if◌then◌else◌, List, [], ◌∷◌}
use Rattle.ce_events.specs.declared.event.Event.{Event}
use Rattle.ce_events.specs.declared.event.Event.TheVariants.{DrainBegun, Dropped, Enqueued, QueueOpened, Started}
use Rattle.order_law.specs.Book.{Entry}

-- the log says this somewhere
abbrev pub Says : List Event → Event → Type 0
Says [] e = ⊥
Says (x ∷ log) e = (x ≡ e) ⊎ Says log e

-- what is said of an enqueue
abbrev pub enqueue_line : Entry → Event
enqueue_line w = Enqueued w.number w.element w.what w.queue

-- the reaction of this number has started, or was dropped
abbrev pub IsTaken : List Event → ℕ → Type 0
IsTaken log r = Says log (Started r) ⊎ Says log (Dropped r)

-- at the end of the log the reaction waits: it was enqueued, and has neither started nor been dropped
abbrev pub Waits : List Event → Entry → Type 0
Waits log w = Says log (enqueue_line w) × (IsTaken log w.number → ⊥)

-- the event drops a reaction of the element, which waits
abbrev pub IsDropOf : List Event → ℕ → Event → Type 0
IsDropOf log n e = (w : Entry) × (e ≡ Dropped w.number) × (w.element ≡ n) × Waits log w

-- how many events pass
abbrev pub count : (Event → Bool) → List Event → ℕ
count test [] = 0
count test (e ∷ log) = if test e then count test log + 1 else count test log

abbrev pub is_enqueue : Event → Bool
is_enqueue (Enqueued r n what q) = true
is_enqueue e = false

abbrev pub is_push : Event → Bool
is_push (QueueOpened q) = true
is_push e = false

-- the queue was pushed, and its draining has not begun
abbrev pub IsFilling : List Event → ℕ → Type 0
IsFilling log q = Says log (QueueOpened q) × (Says log (DrainBegun q) → ⊥)

-- the last that was pushed, of the queues whose draining has not begun: the one with the greatest number; or 0, where there is
-- none
abbrev pub IsCurrent : List Event → ℕ → Type 0
IsCurrent log q = ((q ≡ 0) ⊎ IsFilling log q) × ((p : ℕ) → IsFilling log p → p ≤ q)
