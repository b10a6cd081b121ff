-- The clauses of the law of order, each a test of one event against the book of the events before it.
use Rattle.std.specs.Prelude.{ℕ, ◌+◌, ◌==◌, Bool, true, false, not, ◌&&◌, ◌||◌, List, [], ◌∷◌, Option, Some, None, is_some}
use Rattle.rule_tokens.specs.declared.callback.CallName.{CallName}
use Rattle.ce_events.specs.Calls.{call_of}
use Rattle.ce_events.specs.declared.event.Event.{Event}
use Rattle.ce_events.specs.declared.event.Event.TheVariants.{QueueOpened, Enqueued, DrainBegun, Started, Finished}
use Rattle.ce_events.specs.declared.event.Event.TheVariants.{Dropped, QueueClosed, UpgradeBegun, UpgradeDone, UpgradeThrew}
use Rattle.reaction_queue.specs.ElementQueues.{is_empty}
use Rattle.order_law.specs.Book.{Book, Entry, Bracket, Filling, Draining, Reacting, Upgrading}
use Rattle.order_law.specs.Lines.{is_reply}
use Rattle.order_law.specs.Reads.{is_one_of, is_callback, is_for, entry_of, none_of_element, none_of_queue, is_first, current}

-- First clause: reactions are numbered 1, 2, 3 and on, and so are the element queues that are pushed. An enqueue tells the
-- queue that was pushed last, of those whose draining has not begun; where there is none, 0.
abbrev pub counts_up : Book → Event → Bool
counts_up b (QueueOpened q) = q == b.queues + 1
counts_up b (Enqueued r n what q) = (r == b.numbers + 1) && (q == current b.brackets)
counts_up b e = true

-- Second clause: a reaction starts or is dropped once, after its enqueue. It starts directly in a queue that is draining. A
-- callback's line stands directly in a reaction of its element, which was enqueued for that callback, and whose line has not
-- come yet. A reaction that was enqueued for a callback has its line before it finishes; an upgrade has none.

abbrev pub is_in_drain : List Bracket → Bool
is_in_drain (Draining q ∷ bs) = true
is_in_drain bs = false

abbrev pub starts_once : Book → Event → Bool
starts_once b (Started r) = is_some (entry_of r b.waiting) && is_in_drain b.brackets
starts_once b (Dropped r) = is_some (entry_of r b.waiting)
starts_once b e = true

abbrev pub may_call : Option (ℕ × CallName) → List Bracket → Bool
may_call None bs = true
may_call (Some c) (Reacting w false ∷ bs) = (w.element == c.0) && is_for w.what c.1
may_call (Some c) bs = false

abbrev pub has_called : List Bracket → Bool
has_called (Reacting w called ∷ bs) = called || not (is_callback w.what)
has_called bs = false

abbrev pub calls_once : Book → Event → Bool
calls_once b (Finished r) = has_called b.brackets
calls_once b e = may_call (call_of e) b.brackets

abbrev pub runs_once : Book → Event → Bool
runs_once b e = starts_once b e && calls_once b e

-- Third clause: the reactions of an element start or are dropped in the order of their numbers. While a lower one of the
-- element waits, none does.

abbrev pub leads : Option Entry → List Entry → Bool
leads None ws = true
leads (Some w) ws = is_first w.number w.element ws

abbrev pub runs_in_order : Book → Event → Bool
runs_in_order b (Started r) = leads (entry_of r b.waiting) b.waiting
runs_in_order b (Dropped r) = leads (entry_of r b.waiting) b.waiting
runs_in_order b e = true

-- Fourth clause: a reaction is dropped directly in the upgrade of its element. What follows at once is another drop of the
-- element, or that its upgrade threw. Where an upgrade throws, no reaction of the element waits.

abbrev pub is_in_upgrade : Option Entry → List Bracket → Bool
is_in_upgrade (Some w) (Upgrading n ∷ bs) = w.element == n
is_in_upgrade w bs = false

abbrev pub drops_in_upgrade : Book → Event → Bool
drops_in_upgrade b (Dropped r) = is_in_upgrade (entry_of r b.waiting) b.brackets
drops_in_upgrade b (UpgradeThrew n) = none_of_element n b.waiting
drops_in_upgrade b e = true

abbrev pub element_of : Option Entry → Option ℕ
element_of None = None
element_of (Some w) = Some w.element

-- the element whose reaction is dropped, or whose upgrade threw
abbrev pub loser : Book → Event → Option ℕ
loser b (UpgradeThrew n) = Some n
loser b (Dropped r) = element_of (entry_of r b.waiting)
loser b e = None

abbrev pub is_that : ℕ → Option ℕ → Bool
is_that n None = false
is_that n (Some m) = n == m

-- after a drop the loser is the same
abbrev pub goes_on : Option ℕ → Option ℕ → Bool
goes_on None next = true
goes_on (Some n) next = is_that n next

abbrev pub drops_by_throw : Book → Event → Bool
drops_by_throw b e = drops_in_upgrade b e && goes_on b.dropping (loser b e)

-- Fifth clause: where a queue is closed, no reaction waits that was enqueued with it. What had started has finished by then,
-- since brackets nest.
abbrev pub closes_empty : Book → Event → Bool
closes_empty b (QueueClosed q) = none_of_queue q b.waiting
closes_empty b e = true

-- Sixth clause: what ends a bracket ends the innermost. The draining of a queue begins directly in it, that of the backup
-- element queue outside of all brackets. After an enqueue that tells 0 the backup element queue is closed before the next reply.

abbrev pub begins_drain : ℕ → List Bracket → Bool
begins_drain q [] = q == 0
begins_drain q (Filling m ∷ bs) = m == q
begins_drain q bs = false

abbrev pub ends_drain : ℕ → List Bracket → Bool
ends_drain q (Draining m ∷ bs) = m == q
ends_drain q bs = false

abbrev pub ends_reaction : ℕ → List Bracket → Bool
ends_reaction r (Reacting w called ∷ bs) = w.number == r
ends_reaction r bs = false

abbrev pub ends_upgrade : ℕ → List Bracket → Bool
ends_upgrade n (Upgrading m ∷ bs) = m == n
ends_upgrade n bs = false

abbrev pub ends_innermost : Book → Event → Bool
ends_innermost b (DrainBegun q) = begins_drain q b.brackets
ends_innermost b (QueueClosed q) = ends_drain q b.brackets
ends_innermost b (Finished r) = ends_reaction r b.brackets
ends_innermost b (UpgradeDone n) = ends_upgrade n b.brackets
ends_innermost b (UpgradeThrew n) = ends_upgrade n b.brackets
ends_innermost b e = true

abbrev pub nests : Book → Event → Bool
nests b e = ends_innermost b e && not (is_reply e && b.owed)

-- Seventh clause: an element is upgraded at most once, directly in its upgrade reaction, or in a queue whose draining has not
-- begun. After its upgrade threw, no callback of the element is enqueued, and none starts.

abbrev pub may_upgrade : ℕ → List Bracket → Bool
may_upgrade n (Reacting w called ∷ bs) = (w.element == n) && not (is_callback w.what)
may_upgrade n (Filling q ∷ bs) = true
may_upgrade n bs = false

abbrev pub begins_upgrade : Book → Event → Bool
begins_upgrade b (UpgradeBegun n) = may_upgrade n b.brackets && not (is_one_of n b.upgraded)
begins_upgrade b e = true

abbrev pub is_callback_of : List ℕ → Option Entry → Bool
is_callback_of ns None = false
is_callback_of ns (Some w) = is_callback w.what && is_one_of w.element ns

abbrev pub spares_thrown : Book → Event → Bool
spares_thrown b (Enqueued r n what q) = not (is_callback what && is_one_of n b.thrown)
spares_thrown b (Started r) = not (is_callback_of b.thrown (entry_of r b.waiting))
spares_thrown b e = true

abbrev pub upgrades_once : Book → Event → Bool
upgrades_once b e = begins_upgrade b e && spares_thrown b e

-- Eighth clause: at a reply no bracket is open, and no reaction waits.

abbrev pub replies_at_rest : Book → Event → Bool
replies_at_rest b e = not (is_reply e) || (is_empty b.brackets && is_empty b.waiting)

-- And nothing comes after the fuel is spent.
abbrev pub fuel_is_last : Book → Event → Bool
fuel_is_last b e = not b.over
