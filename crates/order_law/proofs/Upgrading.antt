-- Upgrades, checkpoints, numbers and the end of the fuel, in the words of the log.
use Rattle.std.proofs.Common.{◌≡◌, ℕ, ◌+◌, Bool, true, false, List, [], ◌∷◌, ◌++◌, Option, Some, None, refl, sym, ap, ◌∙◌, arith, ⊎_elim, inl, inr}
use Rattle.std.specs.Prelude.{◌⊎◌, ◌&&◌, ◌||◌, ◌==◌, not, if◌then◌else◌}
use Rattle.std.proofs.lemmas.Bool.{eqb-true, eq-eqb, or_right}
use Rattle.rule_tokens.specs.declared.callback.CallName.{CallName}
use Rattle.rule_tokens.specs.declared.callback.CallOrUpgrade.{CallOrUpgrade}
use Rattle.rule_tokens.specs.declared.callback.CallOrUpgrade.TheVariants.{Call}
use Rattle.ce_events.specs.declared.event.Event.{Event}
use Rattle.ce_events.specs.declared.event.Event.TheVariants.{Enqueued, Started, FuelLine, QueueOpened, QueueClosed, UpgradeBegun, UpgradeThrew}
use Rattle.order_law.specs.Book.{Book, Entry, blank}
use Rattle.order_law.specs.Lines.{is_reply}
use Rattle.order_law.specs.Reads.{is_one_of, is_callback, entry_of, current}
use Rattle.order_law.specs.Clauses.{may_upgrade, begins_upgrade, is_callback_of}
use Rattle.order_law.specs.After.{after, started}
use Rattle.order_law.specs.Law.{may_come, read, Lawful}
use Rattle.order_law.specs.Words.{Says, Waits, count, is_enqueue, is_push}
use Rattle.order_law.proofs.Fronts.{left_true, right_true}
use Rattle.order_law.proofs.Walk.{Keeps, keeps, At, at, past_of, rest_from, says_turned}
use Rattle.order_law.proofs.Entries.{among_found}
use Rattle.order_law.proofs.Waiting.{Kept, kept_first, kept_step}
use Rattle.order_law.proofs.Runs.{among_of}

-- a start changes nothing but what waits and what is open
pub record Unmoved (b c : Book) : Type 0 where
  pub queues : c.queues ≡ b.queues
  pub numbers : c.numbers ≡ b.numbers
  pub upgraded : c.upgraded ≡ b.upgraded
  pub thrown : c.thrown ≡ b.thrown
  pub owed : c.owed ≡ b.owed

pub start_unmoved : (o : Option Entry) (b : Book) → Unmoved b (started o b)
start_unmoved None b = record { queues = refl; numbers = refl; upgraded = refl; thrown = refl; owed = refl }
start_unmoved (Some w) b = record { queues = refl; numbers = refl; upgraded = refl; thrown = refl; owed = refl }

-- the book has each upgrade that began and each that threw
pub record Knows (past : List Event) (b : Book) : Type 0 where
  pub begun : (n : ℕ) → Says past (UpgradeBegun n) → is_one_of n b.upgraded ≡ true
  pub threw : (n : ℕ) → Says past (UpgradeThrew n) → is_one_of n b.thrown ≡ true

knows_first : Knows [] blank
knows_first = record { begun = λ n s. absurd s; threw = λ n s. absurd s }

abbrev element_of_up : Event → ℕ
element_of_up (UpgradeBegun n) = n
element_of_up (UpgradeThrew n) = n
element_of_up e = 0

more : (m n : ℕ) (ns : List ℕ) → is_one_of n ns ≡ true → is_one_of n (m ∷ ns) ≡ true
more m n ns h = or_right (m == n) (is_one_of n ns) h

knows_same : (past : List Event) (b : Book) (e : Event) (c : Book) → Knows past b → ((n : ℕ) → e ≡ UpgradeBegun n → ⊥) →
    ((n : ℕ) → e ≡ UpgradeThrew n → ⊥) → c.upgraded ≡ b.upgraded → c.thrown ≡ b.thrown → Knows (e ∷ past) c
knows_same past b e c k no_up no_throw hu ht =
    record {
      begun = λ n s. ap (is_one_of n) hu ∙ ⊎_elim (λ i. absurd (no_up n i)) (λ i. k.begun n i) s;
      threw = λ n s. ap (is_one_of n) ht ∙ ⊎_elim (λ i. absurd (no_throw n i)) (λ i. k.threw n i) s;
    }

knows_step : (past : List Event) (b : Book) (e : Event) → Knows past b → Keeps b e → Knows (e ∷ past) (after b e)
knows_step past b (UpgradeBegun m) k h =
    record {
      begun = λ n s. ⊎_elim (λ i. ap (λ t. t || is_one_of n b.upgraded) (eq-eqb m n (ap element_of_up i))) (λ i. more m n b.upgraded (k.begun n i)) s;
      threw = λ n s. ⊎_elim (λ i. absurd (let j : UpgradeBegun m ≡ UpgradeThrew n = i in cc)) (λ i. k.threw n i) s;
    }
knows_step past b (UpgradeThrew m) k h =
    record {
      begun = λ n s. ⊎_elim (λ i. absurd (let j : UpgradeThrew m ≡ UpgradeBegun n = i in cc)) (λ i. k.begun n i) s;
      threw = λ n s. ⊎_elim (λ i. ap (λ t. t || is_one_of n b.thrown) (eq-eqb m n (ap element_of_up i))) (λ i. more m n b.thrown (k.threw n i)) s;
    }
knows_step past b (Started r) k h = let u =
    start_unmoved (entry_of r b.waiting) b in knows_same past b (Started r) (after b (Started r)) k (λ n i. absurd cc) (λ n i. absurd cc) u.upgraded u.thrown
knows_step past b e k h = knows_same past b e (after b e) k (λ n i. absurd cc) (λ n i. absurd cc) refl refl

at_knows : (before : List Event) (e : Event) (behind : List Event) → Lawful (before ++ e ∷ behind) → At Knows before e behind
at_knows before e behind h = at Knows knows_first knows_step before e behind h

not_both : (a b : Bool) → not (a && b) ≡ true → a ≡ true → b ≡ true → ⊥
not_both true true h i j = let f : false ≡ true = h in cc
not_both true false h i j = let f : false ≡ true = j in cc
not_both false b h i j = let f : false ≡ true = i in cc

pub one_upgrade : (before behind : List Event) (n : ℕ) → Lawful (before ++ UpgradeBegun n ∷ behind) → Says before (UpgradeBegun n) → ⊥
one_upgrade before behind n h s =
    let a = at_knows before (UpgradeBegun n) behind h in
    let b = read blank before in
    not_both true (is_one_of n b.upgraded) (right_true (may_upgrade n b.brackets) (not (is_one_of n b.upgraded)) (left_true _ _ a.keeps.upgrades)) refl
    (a.past.begun n (says_turned before (UpgradeBegun n) s))

pub no_enqueue_behind_throw : (before behind : List Event) (r n q : ℕ) (name : CallName) → Lawful (before ++ Enqueued r n (Call name) q ∷ behind) →
    Says before (UpgradeThrew n) → ⊥
no_enqueue_behind_throw before behind r n q name h s =
    let a = at_knows before (Enqueued r n (Call name) q) behind h in
    not_both true (is_one_of n (read blank before).thrown)
    (right_true (begins_upgrade (read blank before) (Enqueued r n (Call name) q)) _ a.keeps.upgrades) refl
    (a.past.threw n (says_turned before (UpgradeThrew n) s))

pub no_start_behind_throw : (before behind : List Event) (w : Entry) (name : CallName) → Lawful (before ++ Started w.number ∷ behind) →
    Waits before w → w.what ≡ Call name → Says before (UpgradeThrew w.element) → ⊥
no_start_behind_throw before behind w name h i e s =
    let a = at_knows before (Started w.number) behind h in
    let k = at Kept kept_first kept_step before (Started w.number) behind h in
    let b = read blank before in
    let found = among_found 0 b.waiting w k.past.rising (among_of before b w k.past i) in
    not_both (is_callback w.what) (is_one_of w.element b.thrown)
    (sym (ap (λ o. not (is_callback_of b.thrown o)) found) ∙ right_true (begins_upgrade b (Started w.number)) _ a.keeps.upgrades) (ap is_callback e)
    (a.past.threw w.element (says_turned before (UpgradeThrew w.element) s))

pub ruleset upgraded_once = (one_upgrade, no_enqueue_behind_throw, no_start_behind_throw)

-- the checkpoint

close_pays : (b : Book) (q : ℕ) (log : List Event) (t : Bool) → q == 0 ≡ t → b.owed ≡ true →
    Says (QueueClosed q ∷ log) (QueueClosed 0) ⊎ ((after b (QueueClosed q)).owed ≡ true)
close_pays b q log true e h = inl (inl (ap QueueClosed (eqb-true q 0 e)))
close_pays b q log false e h = inr (ap (λ t. b.owed && not t) e ∙ ap (λ t. t && true) h)

owes_on : (b : Book) (e : Event) (log : List Event) → b.owed ≡ true → Says (e ∷ log) (QueueClosed 0) ⊎ ((after b e).owed ≡ true)
owes_on b (QueueClosed q) log h = close_pays b q log (q == 0) refl h
owes_on b (Enqueued r n what q) log h = inr (ap (λ t. t || (q == 0)) h)
owes_on b (Started r) log h = inr ((start_unmoved (entry_of r b.waiting) b).owed ∙ h)
owes_on b e log h = inr h

owes : (b : Book) (log : List Event) → b.owed ≡ true → Says log (QueueClosed 0) ⊎ ((read b log).owed ≡ true)
owes b [] h = inr h
owes b (e ∷ log) h = ⊎_elim (λ s. inl s) (λ k. ⊎_elim (λ s. inl (inr s)) (λ j. inr j) (owes (after b e) log k)) (owes_on b e log h)

pub checkpoint_before_reply : (before between behind : List Event) (r n : ℕ) (what : CallOrUpgrade) (e : Event) → is_reply e ≡ true →
    Lawful (before ++ Enqueued r n what 0 ∷ (between ++ e ∷ behind)) → Says between (QueueClosed 0)
checkpoint_before_reply before between behind r n what e is h =
    let b = read blank before in
    let c = after b (Enqueued r n what 0) in
    let rest = rest_from blank before (Enqueued r n what 0 ∷ (between ++ e ∷ behind)) h in
    let end = rest_from c between (e ∷ behind) (right_true (may_come b (Enqueued r n what 0)) _ rest) in
    let k = keeps (read c between) e (left_true (may_come (read c between) e) _ end) in
    ⊎_elim (λ s. s) (λ o. absurd (not_both (is_reply e) (read c between).owed (right_true _ _ k.nested) is o)) (owes c between (or_right b.owed true refl))

-- numbers

pub record Counts (past : List Event) (b : Book) : Type 0 where
  pub numbers : b.numbers ≡ count is_enqueue past
  pub queues : b.queues ≡ count is_push past

counts_step : (past : List Event) (b : Book) (e : Event) → Counts past b → Keeps b e → Counts (e ∷ past) (after b e)
counts_step past b (Enqueued r n what q) k h =
    record {
      numbers = eqb-true r (b.numbers + 1) (left_true (r == b.numbers + 1) (q == current b.brackets) h.counts) ∙ ap (λ x. x + 1) k.numbers;
      queues = k.queues;
    }
counts_step past b (QueueOpened q) k h = record { numbers = k.numbers; queues = eqb-true q (b.queues + 1) h.counts ∙ ap (λ x. x + 1) k.queues }
counts_step past b (Started r) k h = let u = start_unmoved (entry_of r b.waiting) b in record { numbers = u.numbers ∙ k.numbers; queues = u.queues ∙ k.queues }
counts_step past b e k h = record { numbers = k.numbers; queues = k.queues }

count_turned : (test : Event → Bool) (log past : List Event) → count test (past_of log past) ≡ count test log + count test past
count_turned test [] past = omega (arith)
count_turned test (e ∷ log) past = go (test e) (count_turned test log (e ∷ past))
  where
    go : (t : Bool) → count test (past_of log (e ∷ past)) ≡ count test log + (if t then count test past + 1 else count test past) →
        count test (past_of log (e ∷ past)) ≡ (if t then count test log + 1 else count test log) + count test past
    go true k = omega (arith, k)
    go false k = k

count_back : (test : Event → Bool) (log : List Event) → count test (past_of log []) ≡ count test log
count_back test log = let k = count_turned test log [] in omega (arith, k)

at_counts : (before : List Event) (e : Event) (behind : List Event) → Lawful (before ++ e ∷ behind) → At Counts before e behind
at_counts before e behind h = at Counts (record { numbers = refl; queues = refl }) counts_step before e behind h

pub enqueue_counts : (before behind : List Event) (r n q : ℕ) (what : CallOrUpgrade) → Lawful (before ++ Enqueued r n what q ∷ behind) →
    r ≡ count is_enqueue before + 1
enqueue_counts before behind r n q what h =
    let a = at_counts before (Enqueued r n what q) behind h in
    let b = read blank before in
    eqb-true r (b.numbers + 1) (left_true (r == b.numbers + 1) (q == current b.brackets) a.keeps.counts)
    ∙ ap (λ x. x + 1) (a.past.numbers ∙ count_back is_enqueue before)

pub push_counts : (before behind : List Event) (q : ℕ) → Lawful (before ++ QueueOpened q ∷ behind) → q ≡ count is_push before + 1
push_counts before behind q h =
    let a = at_counts before (QueueOpened q) behind h in
    eqb-true q ((read blank before).queues + 1) a.keeps.counts ∙ ap (λ x. x + 1) (a.past.queues ∙ count_back is_push before)

-- the end of the fuel

pub fuel_ends : (before behind : List Event) → Lawful (before ++ FuelLine ∷ behind) → behind ≡ []
fuel_ends before [] h = refl
fuel_ends before (e ∷ behind) h =
    let b = read blank before in
    let rest = rest_from blank before (FuelLine ∷ e ∷ behind) h in
    let next = right_true (may_come b FuelLine) _ rest in
    let k = keeps (after b FuelLine) e (left_true (may_come (after b FuelLine) e) _ next) in
    absurd (let f : false ≡ true = k.last in cc)
