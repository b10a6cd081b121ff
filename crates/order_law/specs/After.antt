-- The book after an event.
use Rattle.std.specs.Prelude.{ℕ, ◌==◌, true, false, not, ◌&&◌, ◌||◌, List, [], ◌∷◌, ◌++◌, Option, Some, None}
use Rattle.rule_tokens.specs.declared.callback.CallName.{CallName}
use Rattle.ce_events.specs.Calls.{call_of}
use Rattle.ce_events.specs.declared.event.Event.{Event}
use Rattle.ce_events.specs.declared.event.Event.TheVariants.{FuelLine, QueueOpened, Enqueued, DrainBegun, Started, Finished}
use Rattle.ce_events.specs.declared.event.Event.TheVariants.{Dropped, QueueClosed, UpgradeBegun, UpgradeDone, UpgradeThrew}
use Rattle.order_law.specs.Book.{Book, Entry, Bracket, Filling, Draining, Reacting, Upgrading}
use Rattle.order_law.specs.Reads.{entry_of, without, around}
use Rattle.order_law.specs.Clauses.{element_of}

-- a reaction waits no more
abbrev pub taken : ℕ → Book → Book
taken r b = record b { waiting = without r b.waiting }

-- and runs
abbrev pub started : Option Entry → Book → Book
started None b = b
started (Some w) b = record (taken w.number b) { brackets = Reacting w false ∷ b.brackets }

-- a callback's line marks the reaction that it stands in
abbrev pub marked : Option (ℕ × CallName) → List Bracket → List Bracket
marked (Some c) (Reacting w called ∷ bs) = Reacting w true ∷ bs
marked c bs = bs

-- a reaction is enqueued
abbrev pub enqueued : Entry → Book → Book
enqueued w b = record b { numbers = w.number; waiting = b.waiting ++ w ∷ []; owed = b.owed || (w.queue == 0) }

-- what the event itself writes
abbrev pub written : Book → Event → Book
written b (QueueOpened q) = record b { queues = q; brackets = Filling q ∷ b.brackets }
written b (Enqueued r n what q) = enqueued (record { number = r; element = n; what = what; queue = q }) b
written b (DrainBegun q) = record b { brackets = Draining q ∷ around b.brackets }
written b (Started r) = started (entry_of r b.waiting) b
written b (Finished r) = record b { brackets = around b.brackets }
written b (Dropped r) = taken r b
written b (QueueClosed q) = record b { brackets = around b.brackets; owed = b.owed && not (q == 0) }
written b (UpgradeBegun n) = record b { brackets = Upgrading n ∷ b.brackets; upgraded = n ∷ b.upgraded }
written b (UpgradeDone n) = record b { brackets = around b.brackets }
written b (UpgradeThrew n) = record b { brackets = around b.brackets; thrown = n ∷ b.thrown }
written b FuelLine = record b { over = true }
written b e = record b { brackets = marked (call_of e) b.brackets }

-- the element of a reaction that the event drops
abbrev pub dropped : Book → Event → Option ℕ
dropped b (Dropped r) = element_of (entry_of r b.waiting)
dropped b e = None

abbrev pub after : Book → Event → Book
after b e = record (written b e) { dropping = dropped b e }
