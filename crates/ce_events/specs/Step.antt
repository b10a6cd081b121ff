-- What an event is to the law of order: the kind of its step, with what the law reads of it.
use Rattle.std.specs.Prelude.{ℕ, Option, None, Some}
use Rattle.rule_tokens.specs.declared.callback.CallName.{CallName}
use Rattle.rule_tokens.specs.declared.callback.CallOrUpgrade.{CallOrUpgrade}
use Rattle.ce_events.specs.Calls.{call_of}
use Rattle.ce_events.specs.declared.event.Event.{Event}
use Rattle.ce_events.specs.declared.event.Event.TheVariants.{Fine, Gave, Answered, Ignored, Threw, WasBad, FuelLine, QueueOpened, Enqueued, DrainBegun}
use Rattle.ce_events.specs.declared.event.Event.TheVariants.{Started, Finished, Dropped, QueueClosed, UpgradeBegun, UpgradeDone, UpgradeThrew}

pub data Step : Type 0 where
  Opens : (queue : ℕ) → Step  -- an element queue is pushed
  Enqueues : (reaction element : ℕ) → (what : CallOrUpgrade) → (queue : ℕ) → Step  -- a reaction is enqueued
  Drains : (queue : ℕ) → Step  -- the draining of a queue starts: of one that was popped, or of the backup element queue
  Starts : (reaction : ℕ) → Step  -- a reaction is taken, and runs
  Finishes : (reaction : ℕ) → Step  -- the reaction ends
  Drops : (reaction : ℕ) → Step  -- a reaction is taken away, and does not run
  Closes : (queue : ℕ) → Step  -- the draining of a queue ends
  Begins : (element : ℕ) → Step  -- an element's upgrade starts
  Ends : (element : ℕ) → Step  -- the upgrade ends, and the element is custom
  Throws : (element : ℕ) → Step  -- the upgrade throws
  Calls : (element : ℕ) → (name : CallName) → Step  -- a callback of an element starts
  Replies : Step  -- a line of the script is replied to
  Spends : Step  -- the fuel is spent
  Says : Step  -- anything else: the law has no word on it

-- that of a callback's line; of any other
abbrev pub called : Option (ℕ × CallName) → Step
called None = Says
called (Some c) = Calls c.0 c.1

abbrev pub step_of : Event → Step
step_of (QueueOpened q) = Opens q
step_of (Enqueued r n what q) = Enqueues r n what q
step_of (DrainBegun q) = Drains q
step_of (Started r) = Starts r
step_of (Finished r) = Finishes r
step_of (Dropped r) = Drops r
step_of (QueueClosed q) = Closes q
step_of (UpgradeBegun n) = Begins n
step_of (UpgradeDone n) = Ends n
step_of (UpgradeThrew n) = Throws n
step_of (Fine line) = Replies
step_of (Gave line n) = Replies
step_of (Answered line a) = Replies
step_of (Ignored line) = Replies
step_of (Threw line f) = Replies
step_of (WasBad line bad) = Replies
step_of FuelLine = Spends
step_of e = called (call_of e)
