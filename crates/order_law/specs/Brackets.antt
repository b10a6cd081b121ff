-- Brackets in a log, told without the book.
use Rattle.std.specs.Prelude.{◌≡◌, ◌⊎◌, ℕ, Bool, true, false, not, is_some, List, [], ◌∷◌, ◌++◌, Some}
use Rattle.rule_tokens.specs.declared.callback.CallOrUpgrade.{CallOrUpgrade}
use Rattle.rule_tokens.specs.declared.callback.CallOrUpgrade.TheVariants.{Call, Upgrade}
use Rattle.ce_events.specs.Calls.{call_of}
use Rattle.ce_events.specs.declared.event.Event.{Event}
use Rattle.ce_events.specs.declared.event.Event.TheVariants.{QueueOpened, DrainBegun, Started, Finished, QueueClosed, UpgradeBegun, UpgradeDone, UpgradeThrew}
use Rattle.order_law.specs.Book.{Entry}
use Rattle.order_law.specs.Words.{Says, enqueue_line}

-- no bracket begins or ends with it, and it is no callback's line
abbrev pub is_plain : Event → Bool
is_plain (QueueOpened q) = false
is_plain (DrainBegun q) = false
is_plain (Started r) = false
is_plain (Finished r) = false
is_plain (QueueClosed q) = false
is_plain (UpgradeBegun n) = false
is_plain (UpgradeDone n) = false
is_plain (UpgradeThrew n) = false
is_plain e = not (is_some (call_of e))

-- a stretch of a log in which each bracket that begins ends, with the callbacks' lines that stand in none of its brackets
pub data Whole : List Event → List Event → Type 0 where
  Empty : Whole [] []
  Plain : {calls log : List Event} → (e : Event) → is_plain e ≡ true → Whole calls log → Whole calls (log ++ e ∷ [])
  Line : {calls log : List Event} → (e : Event) → is_some (call_of e) ≡ true → Whole calls log → Whole (calls ++ e ∷ []) (log ++ e ∷ [])
  Operation : {calls log : List Event} → (q : ℕ) (steps drain : List Event) → Whole calls log → Whole [] steps → Whole [] drain →
      Whole calls (log ++ QueueOpened q ∷ (steps ++ DrainBegun q ∷ (drain ++ QueueClosed q ∷ [])))
  Checkpoint : {calls log : List Event} → (drain : List Event) → Whole calls log → Whole [] drain →
      Whole calls (log ++ DrainBegun 0 ∷ (drain ++ QueueClosed 0 ∷ []))
  Reaction : {calls log lines : List Event} → (r : ℕ) (body : List Event) → Whole calls log → Whole lines body →
      Whole calls (log ++ Started r ∷ (body ++ Finished r ∷ []))
  Done : {calls log : List Event} → (n : ℕ) (made : List Event) → Whole calls log → Whole [] made →
      Whole calls (log ++ UpgradeBegun n ∷ (made ++ UpgradeDone n ∷ []))
  Threw : {calls log : List Event} → (n : ℕ) (made : List Event) → Whole calls log → Whole [] made →
      Whole calls (log ++ UpgradeBegun n ∷ (made ++ UpgradeThrew n ∷ []))

-- at the end of the log the innermost open bracket is the one that begins with this event; these callbacks' lines stand directly
-- in it
pub record Innermost (calls : List Event) (opening : Event) (log : List Event) : Type 0 where
  pub outside : List Event
  pub inside : List Event
  pub cut : log ≡ outside ++ opening ∷ inside
  pub whole : Whole calls inside

-- the lines of a reaction: of one for a callback that callback's line for its element, and no other; of an upgrade none
abbrev pub AreLines : CallOrUpgrade → ℕ → List Event → Type 0
AreLines (Call name) n lines = (e : Event) × (lines ≡ e ∷ []) × (call_of e ≡ Some (n, name))
AreLines Upgrade n lines = lines ≡ []

-- at the end of the log a reaction runs directly: one that was enqueued, and no callback's line stands directly in it yet
pub record Runs (w : Entry) (log : List Event) : Type 0 where
  pub enqueued : Says log (enqueue_line w)
  pub innermost : Innermost [] (Started w.number) log

-- the element may be upgraded: directly in its upgrade reaction, or in a queue whose draining has not begun
abbrev pub MayUpgrade : ℕ → List Event → Type 0
MayUpgrade n log = ((w : Entry) × (w.element ≡ n) × (w.what ≡ Upgrade) × Runs w log) ⊎ ((q : ℕ) × Innermost [] (QueueOpened q) log)

-- how a reaction ends: it was enqueued, is the innermost, and has had its callback's line, or none where it is an upgrade
pub record HasRun (r : ℕ) (log : List Event) : Type 0 where
  pub entry : Entry
  pub number : entry.number ≡ r
  pub enqueued : Says log (enqueue_line entry)
  pub lines : List Event
  pub are : AreLines entry.what entry.element lines
  pub innermost : Innermost lines (Started r) log
