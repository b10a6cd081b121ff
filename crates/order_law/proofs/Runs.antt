-- What waits, in the words of the log: the clauses on starts, drops, throws, closes and replies.
use Rattle.std.proofs.Common.{◌≡◌, ℕ, ◌≤◌, Bool, true, false, List, [], ◌∷◌, ◌++◌, Option, Some, None, refl, sym, ap, ◌∙◌, subst, ⊎_elim, inl, inr}
use Rattle.std.specs.Prelude.{◌⊎◌, ◌&&◌, ◌||◌, not, is_some}
use Rattle.std.proofs.lemmas.Bool.{eqb-true}
use Rattle.std.proofs.lemmas.List.{append_assoc}
use Rattle.ce_events.specs.declared.event.Event.{Event}
use Rattle.ce_events.specs.declared.event.Event.TheVariants.{Started, Dropped, QueueClosed, UpgradeThrew}
use Rattle.reaction_queue.specs.ElementQueues.{is_empty}
use Rattle.order_law.specs.Book.{Book, Entry, blank}
use Rattle.order_law.specs.Lines.{is_reply}
use Rattle.order_law.specs.Reads.{entry_of}
use Rattle.order_law.specs.Clauses.{leads, element_of, loser, is_that, goes_on}
use Rattle.order_law.specs.After.{after}
use Rattle.order_law.specs.Law.{read, Lawful}
use Rattle.order_law.specs.Words.{IsTaken, Waits, IsDropOf, enqueue_line}
use Rattle.order_law.proofs.Fronts.{left_true, right_true}
use Rattle.order_law.proofs.Walk.{At, at, past_of, says_turned, says_back}
use Rattle.order_law.proofs.Entries.{IsAmong, found_among, among_found, none_of_element_says, none_of_queue_says, is_first_says}
use Rattle.order_law.proofs.Waiting.{Kept, kept_first, kept_step}

at_kept : (before : List Event) (e : Event) (behind : List Event) → Lawful (before ++ e ∷ behind) → At Kept before e behind
at_kept before e behind h = at Kept kept_first kept_step before e behind h

taken_turned : (log : List Event) (r : ℕ) → IsTaken log r → IsTaken (past_of log []) r
taken_turned log r t = ⊎_elim (λ s. inl (says_turned log (Started r) s)) (λ s. inr (says_turned log (Dropped r) s)) t

taken_back : (log : List Event) (r : ℕ) → IsTaken (past_of log []) r → IsTaken log r
taken_back log r t = ⊎_elim (λ s. inl (says_back log (Started r) s)) (λ s. inr (says_back log (Dropped r) s)) t

-- what waits in the log stands in the book
pub among_of : (log : List Event) (b : Book) (w : Entry) → Kept (past_of log []) b → Waits log w → IsAmong w b.waiting
among_of log b w k i = k.among w (says_turned log (enqueue_line w) i.0, λ t. i.1 (taken_back log w.number t))

pub waits_of : (log : List Event) (b : Book) (w : Entry) → Kept (past_of log []) b → IsAmong w b.waiting → Waits log w
waits_of log b w k i = let h = k.waits w i in (says_back log (enqueue_line w) h.0, λ t. h.1 (taken_turned log w.number t))

-- a reaction of this number waits
found : (log : List Event) (b : Book) (r : ℕ) (o : Option Entry) → Kept (past_of log []) b → entry_of r b.waiting ≡ o → is_some o ≡ true →
    (w : Entry) × (w.number ≡ r) × Waits log w
found log b r None k e h = absurd (let f : false ≡ true = h in cc)
found log b r (Some w) k e h = let f = found_among r b.waiting w e in (w, f.1, waits_of log b w k f.0)

pub start_waits : (before behind : List Event) (r : ℕ) → Lawful (before ++ Started r ∷ behind) → (w : Entry) × (w.number ≡ r) × Waits before w
start_waits before behind r h =
    let a = at_kept before (Started r) behind h in
    let b = read blank before in
    found before b r (entry_of r b.waiting) a.past refl (left_true _ _ (left_true _ _ a.keeps.runs))

pub drop_waits : (before behind : List Event) (r : ℕ) → Lawful (before ++ Dropped r ∷ behind) → (w : Entry) × (w.number ≡ r) × Waits before w
drop_waits before behind r h =
    let a = at_kept before (Dropped r) behind h in
    let b = read blank before in
    found before b r (entry_of r b.waiting) a.past refl (left_true _ _ a.keeps.runs)

-- the lowest of the element
lowest : (log : List Event) (b : Book) (w v : Entry) → Kept (past_of log []) b → leads (entry_of w.number b.waiting) b.waiting ≡ true → Waits log w →
    Waits log v → v.element ≡ w.element → w.number ≤ v.number
lowest log b w v k h i j e =
    let found = among_found 0 b.waiting w k.rising (among_of log b w k i) in
    is_first_says 0 w.number w.element b.waiting v k.rising (sym (ap (λ o. leads o b.waiting) found) ∙ h) (among_of log b v k j) e

pub start_in_order : (before behind : List Event) (w v : Entry) → Lawful (before ++ Started w.number ∷ behind) → Waits before w → Waits before v →
    v.element ≡ w.element → w.number ≤ v.number
start_in_order before behind w v h i j e =
    let a = at_kept before (Started w.number) behind h in
    lowest before (read blank before) w v a.past a.keeps.order i j e

pub drop_in_order : (before behind : List Event) (w v : Entry) → Lawful (before ++ Dropped w.number ∷ behind) → Waits before w → Waits before v →
    v.element ≡ w.element → w.number ≤ v.number
drop_in_order before behind w v h i j e =
    let a = at_kept before (Dropped w.number) behind h in
    lowest before (read blank before) w v a.past a.keeps.order i j e

pub throw_drops_all : (before behind : List Event) (n : ℕ) (w : Entry) → Lawful (before ++ UpgradeThrew n ∷ behind) → Waits before w → w.element ≡ n → ⊥
throw_drops_all before behind n w h i e =
    let a = at_kept before (UpgradeThrew n) behind h in
    let b = read blank before in
    none_of_element_says n b.waiting w (left_true _ _ a.keeps.drops) (among_of before b w a.past i) e

pub close_leaves_none : (before behind : List Event) (q : ℕ) (w : Entry) → Lawful (before ++ QueueClosed q ∷ behind) → Waits before w → w.queue ≡ q → ⊥
close_leaves_none before behind q w h i e =
    let a = at_kept before (QueueClosed q) behind h in
    let b = read blank before in
    none_of_queue_says q b.waiting w a.keeps.closes (among_of before b w a.past i) e

none_among : (ws : List Entry) (w : Entry) → is_empty ws ≡ true → IsAmong w ws → ⊥
none_among [] w h i = i
none_among (v ∷ ws) w h i = absurd (let f : false ≡ true = h in cc)

pub at_rest : (t s : Bool) → not t || s ≡ true → t ≡ true → s ≡ true
at_rest true s h k = h
at_rest false s h k = absurd (let f : false ≡ true = k in cc)

pub reply_leaves_none : (before behind : List Event) (e : Event) (w : Entry) → is_reply e ≡ true → Lawful (before ++ e ∷ behind) → Waits before w → ⊥
reply_leaves_none before behind e w is h i =
    let a = at_kept before e behind h in
    let b = read blank before in
    none_among b.waiting w (right_true (is_empty b.brackets) (is_empty b.waiting)
    (at_rest (is_reply e) (is_empty b.brackets && is_empty b.waiting) a.keeps.replies is)) (among_of before b w a.past i)

-- what follows a drop

pub read_append : (b : Book) (front : List Event) (e : Event) → read b (front ++ e ∷ []) ≡ after (read b front) e
read_append b [] e = refl
read_append b (x ∷ front) e = read_append (after b x) front e

follows : (log : List Event) (b : Book) (n : ℕ) (e : Event) → Kept (past_of log []) b → is_that n (loser b e) ≡ true → (e ≡ UpgradeThrew n) ⊎ IsDropOf log n e
follows log b n (UpgradeThrew m) k h = inl (ap UpgradeThrew (sym (eqb-true n m h)))
follows log b n (Dropped r) k h = go (entry_of r b.waiting) refl h
  where
    go : (o : Option Entry) → entry_of r b.waiting ≡ o → is_that n (element_of o) ≡ true → (Dropped r ≡ UpgradeThrew n) ⊎ IsDropOf log n (Dropped r)
    go None e h = absurd (let f : false ≡ true = h in cc)
    go (Some w) e h = let f = found_among r b.waiting w e in inr (w, ap Dropped (sym f.1), sym (eqb-true n w.element h), waits_of log b w k f.0)
follows log b n e k h = absurd (let f : false ≡ true = h in cc)

pub drop_is_followed : (before behind : List Event) (w : Entry) (e : Event) → Lawful (before ++ Dropped w.number ∷ e ∷ behind) → Waits before w →
    (e ≡ UpgradeThrew w.element) ⊎ IsDropOf (before ++ Dropped w.number ∷ []) w.element e
drop_is_followed before behind w e h i =
    let b = read blank before in
    let front = before ++ Dropped w.number ∷ [] in
    let first = at_kept before (Dropped w.number) (e ∷ behind) h in
    let a = at_kept front e behind (subst Lawful (sym (append_assoc before (Dropped w.number ∷ []) (e ∷ behind))) h) in
    let is = among_found 0 b.waiting w first.past.rising (among_of before b w first.past i) in
    let drops : (read blank front).dropping ≡ Some w.element = ap (λ (x : Book). x.dropping) (read_append blank before (Dropped w.number)) ∙ ap element_of is in
    follows front (read blank front) w.element e a.past (sym (ap (λ o. goes_on o (loser (read blank front) e)) drops) ∙ right_true _ _ a.keeps.drops)
