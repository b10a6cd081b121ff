-- The law reads of an event what its step says.
use Rattle.std.proofs.Common.{◌≡◌, ℕ, Bool, [], None, Some, refl, sym, ap, ◌∙◌}
use Rattle.std.specs.Prelude.{◌&&◌, not}
use Rattle.rule_tokens.specs.declared.callback.CallName.{CallName}
use Rattle.ce_events.specs.declared.event.Event.{Event}
use Rattle.ce_events.specs.declared.event.Event.TheVariants.{Construct, Logged, Fine, FuelLine, QueueOpened, Enqueued, DrainBegun, Started, Finished}
use Rattle.ce_events.specs.declared.event.Event.TheVariants.{Dropped, QueueClosed, UpgradeBegun, UpgradeDone, UpgradeThrew}
use Rattle.ce_events.specs.Step.{Step, Opens, Enqueues, Drains, Starts, Finishes, Drops, Closes, Begins, Ends, Throws, Calls, Replies, Spends, Says, step_of}
use Rattle.order_law.specs.After.{after, marked}
use Rattle.order_law.specs.Book.{Book}
use Rattle.order_law.specs.Clauses.{goes_on, may_call}
use Rattle.order_law.specs.Law.{may_come}

-- what the law reads: whether an event may come, and the book behind it
record Reading : Type 0 where
  may : Bool
  next : Book

-- of an event
abbrev of_event : Book → Event → Reading
of_event b e = record { may = may_come b e; next = after b e }

-- of a callback's line
abbrev of_call : Book → (ℕ × CallName) → Reading
of_call b call = record {
  may = may_call (Some call) b.brackets && (goes_on b.dropping None && not b.over);
  next = record b { brackets = marked (Some call) b.brackets; dropping = None };
}

-- of a step: of an event that has it
abbrev of_step : Book → Step → Reading
of_step b (Opens q) = of_event b (QueueOpened q)
of_step b (Enqueues r n what q) = of_event b (Enqueued r n what q)
of_step b (Drains q) = of_event b (DrainBegun q)
of_step b (Starts r) = of_event b (Started r)
of_step b (Finishes r) = of_event b (Finished r)
of_step b (Drops r) = of_event b (Dropped r)
of_step b (Closes q) = of_event b (QueueClosed q)
of_step b (Begins n) = of_event b (UpgradeBegun n)
of_step b (Ends n) = of_event b (UpgradeDone n)
of_step b (Throws n) = of_event b (UpgradeThrew n)
of_step b (Calls n name) = of_call b (n, name)
of_step b Replies = of_event b (Fine 0)
of_step b Spends = of_event b FuelLine
of_step b Says = of_event b (Logged [])

-- each event is read as its step
by_step : (b : Book) (e : Event) → of_event b e ≡ of_step b (step_of e)
by_step b (Construct class) = refl
by_step b e = refl

same_reading : (b : Book) (e f : Event) → step_of e ≡ step_of f → of_event b e ≡ of_event b f
same_reading b e f same = by_step b e ∙ (ap (of_step b) same ∙ sym (by_step b f))

pub may_come_by_step : (b : Book) (e f : Event) → step_of e ≡ step_of f → may_come b e ≡ may_come b f
may_come_by_step b e f same = ap (λ (r : Reading). r.may) (same_reading b e f same)

pub after_by_step : (b : Book) (e f : Event) → step_of e ≡ step_of f → after b e ≡ after b f
after_by_step b e f same = ap (λ (r : Reading). r.next) (same_reading b e f same)
