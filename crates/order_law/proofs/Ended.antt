-- What has started has finished, where its queue is closed.
use Rattle.std.proofs.Common.{◌≡◌, ℕ, ◌+◌, ◌<◌, ◌≤◌, Bool, true, false, List, [], ◌∷◌, ◌++◌, Option, Some, None, refl, sym, ap, ◌∙◌, subst, arith, ⊎_elim, inl}
use Rattle.std.proofs.Common.{inr}
use Rattle.std.specs.Prelude.{◌⊎◌, ◌&&◌, ◌==◌, is_some}
use Rattle.std.proofs.lemmas.Bool.{eqb-true, eqb-false}
use Rattle.rule_tokens.specs.declared.callback.CallName.{CallName}
use Rattle.ce_events.specs.Calls.{call_of}
use Rattle.ce_events.specs.declared.event.Event.{Event}
use Rattle.ce_events.specs.declared.event.Event.TheVariants.{Enqueued, QueueOpened, DrainBegun, Started, Finished, Dropped, QueueClosed, UpgradeBegun}
use Rattle.ce_events.specs.declared.event.Event.TheVariants.{UpgradeDone, UpgradeThrew}
use Rattle.order_law.specs.Book.{Book, Entry, Bracket, Filling, Draining, Reacting, Upgrading, blank}
use Rattle.order_law.specs.Reads.{entry_of, without, current, around}
use Rattle.order_law.specs.Clauses.{begins_drain, ends_drain, ends_reaction, ends_upgrade, is_in_drain}
use Rattle.order_law.specs.After.{after, started, marked}
use Rattle.order_law.specs.Law.{read, Lawful}
use Rattle.order_law.specs.Words.{Says, enqueue_line}
use Rattle.order_law.proofs.Fronts.{left_true, right_true, false_true}
use Rattle.order_law.proofs.Walk.{Keeps, at, past_of, says_turned, says_back}
use Rattle.order_law.proofs.Entries.{IsAmong, found_among, among_found, among_more, among_last, without_among, none_of_queue_says}
use Rattle.order_law.proofs.Waiting.{Kept, kept_first, kept_step, same_line}
use Rattle.order_law.proofs.Pushed.{Pushed, pushed_first, pushed_step, current_of}

-- the reactions that run, the innermost first
abbrev running : List Bracket → List Entry
running [] = []
running (Filling q ∷ bs) = running bs
running (Draining q ∷ bs) = running bs
running (Reacting w called ∷ bs) = w ∷ running bs
running (Upgrading n ∷ bs) = running bs

-- those around a queue were enqueued with lower ones
abbrev Fits : List Bracket → Type 0
Fits [] = Unit {0}
Fits (Filling q ∷ bs) = ((w : Entry) → IsAmong w (running bs) → w.queue < q) × Fits bs
Fits (Draining q ∷ bs) = ((w : Entry) → IsAmong w (running bs) → w.queue < q) × Fits bs
Fits (Reacting w called ∷ bs) = Fits bs
Fits (Upgrading n ∷ bs) = Fits bs

-- a reaction has finished, was dropped, or runs
abbrev IsBegun : List Event → List Entry → Entry → Type 0
IsBegun past ws w = Says past (Finished w.number) ⊎ (Says past (Dropped w.number) ⊎ IsAmong w ws)

-- the book follows each reaction that was enqueued
record Follows (past : List Event) (b : Book) : Type 0 where
  told : (w : Entry) → Says past (enqueue_line w) → w.queue ≤ b.queues
  runs : (w : Entry) → IsAmong w (running b.brackets) → Says past (enqueue_line w)
  fits : Fits b.brackets
  ends : (w : Entry) → Says past (enqueue_line w) → IsAmong w b.waiting ⊎ IsBegun past (running b.brackets) w

follows_first : Follows [] blank
follows_first = record { told = λ w i. absurd i; runs = λ w i. absurd i; fits = tt; ends = λ w i. absurd i }

more_begun : (past : List Event) (e : Event) (ws vs : List Entry) (w : Entry) → (IsAmong w ws → IsBegun (e ∷ past) vs w) → IsBegun past ws w →
    IsBegun (e ∷ past) vs w
more_begun past e ws vs w f (inl i) = inl (inr i)
more_begun past e ws vs w f (inr (inl i)) = inr (inl (inr i))
more_begun past e ws vs w f (inr (inr i)) = f i

-- an event at which no reaction is enqueued, starts, finishes or is dropped
stays : (past : List Event) (b : Book) (e : Event) (c : Book) → Follows past b → ((w : Entry) → e ≡ enqueue_line w → ⊥) →
    running c.brackets ≡ running b.brackets → Fits c.brackets → c.waiting ≡ b.waiting → b.queues ≤ c.queues → Follows (e ∷ past) c
stays past b e c k no_line hr fits hw hq =
    record {
      told = λ w i. let f = k.told w (line w i) in omega (arith, f, hq);
      runs = λ w i. inr (k.runs w (subst (IsAmong w) hr i));
      fits = fits;
      ends = λ w i. ⊎_elim (λ j. inl (subst (IsAmong w) (sym hw) j))
          (λ j. inr (more_begun past e (running b.brackets) (running c.brackets) w (λ a. inr (inr (subst (IsAmong w) (sym hr) a))) j)) (k.ends w (line w i));
    }
  where
    line : (w : Entry) → Says (e ∷ past) (enqueue_line w) → Says past (enqueue_line w)
    line w s = ⊎_elim (λ i. absurd (no_line w i)) (λ i. i) s

enqueues : (past : List Event) (b : Book) (v : Entry) → Follows past b → Pushed past b → v.queue ≡ current b.brackets →
    Follows (enqueue_line v ∷ past) (after b (enqueue_line v))
enqueues past b v k p is =
    record {
      told = λ w i. ⊎_elim (λ e. let f = ap (λ (x : Entry). x.queue) (same_line v w e) in let g = low in omega (arith, f, g)) (λ e. k.told w e) i;
      runs = λ w i. inr (k.runs w i);
      fits = k.fits;
      ends = λ w i. ⊎_elim (λ e. inl (subst (λ x. IsAmong x (b.waiting ++ v ∷ [])) (same_line v w e) (among_last b.waiting v)))
          (λ e. ⊎_elim (λ j. inl (among_more b.waiting v w j))
          (λ j. inr (more_begun past (enqueue_line v) (running b.brackets) (running b.brackets) w (λ a. inr (inr a)) j)) (k.ends w e)) i;
    }
  where
    low : v.queue ≤ b.queues
    low = ⊎_elim (λ i. let z = i.0 in omega (arith, z, is))
        (λ i. let f = p.below (current b.brackets) (p.filling (current b.brackets) i).0 in omega (arith, f, is)) (current_of b.brackets)

-- a reaction starts
starts : (past : List Event) (b : Book) (r : ℕ) (o : Option Entry) → entry_of r b.waiting ≡ o → is_some o ≡ true → Follows past b → Kept past b →
    Follows (Started r ∷ past) (record (started o b) { dropping = None })
starts past b r None e h k kept = false_true h
starts past b r (Some v) e h k kept =
    record {
      told = λ w i. k.told w (line w i);
      runs = λ w i. inr (⊎_elim (λ j. subst (λ x. Says past (enqueue_line x)) j (kept.waits v found.0).0) (λ j. k.runs w j) i);
      fits = k.fits;
      ends = λ w i. ⊎_elim (λ j. go w j (w.number == v.number) refl)
          (λ j. inr (more_begun past (Started r) (running b.brackets) (v ∷ running b.brackets) w (λ a. inr (inr (inr a))) j)) (k.ends w (line w i));
    }
  where
    found : IsAmong v b.waiting × (v.number ≡ r)
    found = found_among r b.waiting v e

    line : (w : Entry) → Says (Started r ∷ past) (enqueue_line w) → Says past (enqueue_line w)
    line w s = ⊎_elim (λ i. absurd (let j : Started r ≡ enqueue_line w = i in cc)) (λ i. i) s

    go : (w : Entry) → IsAmong w b.waiting → (t : Bool) → w.number == v.number ≡ t →
        IsAmong w (without v.number b.waiting) ⊎ IsBegun (Started r ∷ past) (v ∷ running b.brackets) w
    go w j true is =
        let number = eqb-true w.number v.number is in
        let both : Some v ≡ Some w = sym (among_found 0 b.waiting v kept.rising found.0) ∙ ap (λ x. entry_of x b.waiting) (sym number)
        ∙ among_found 0 b.waiting w kept.rising j in
        inr (inr (inr (inl cc)))
    go w j false is = inl (without_among v.number b.waiting w (eqb-false w.number v.number is) j)

-- a reaction finishes
finishes : (past : List Event) (b : Book) (r : ℕ) (bs : List Bracket) → b.brackets ≡ bs → ends_reaction r bs ≡ true → Follows past b → (c : Book) →
    c.brackets ≡ around bs → c.waiting ≡ b.waiting → c.queues ≡ b.queues → Follows (Finished r ∷ past) c
finishes past b r (Reacting v called ∷ bs) e h k c hb hw hq =
    record {
      told = λ w i. let f = k.told w (line w i) in omega (arith, f, hq);
      runs = λ w i. inr (k.runs w (subst (λ l. IsAmong w (running l)) (sym e) (inr (subst (λ l. IsAmong w (running l)) hb i))));
      fits = subst Fits (sym hb) (let f : Fits (Reacting v called ∷ bs) = subst Fits e k.fits in f);
      ends = λ w i. ⊎_elim (λ j. inl (subst (IsAmong w) (sym hw) j))
          (λ j. inr (more_begun past (Finished r) (running b.brackets) (running c.brackets) w (λ a. out w (subst (λ l. IsAmong w (running l)) e a)) j))
          (k.ends w (line w i));
    }
  where
    line : (w : Entry) → Says (Finished r ∷ past) (enqueue_line w) → Says past (enqueue_line w)
    line w s = ⊎_elim (λ i. absurd (let j : Finished r ≡ enqueue_line w = i in cc)) (λ i. i) s

    out : (w : Entry) → IsAmong w (v ∷ running bs) → IsBegun (Finished r ∷ past) (running c.brackets) w
    out w (inl i) = inl (inl (ap Finished (sym (eqb-true v.number r h) ∙ ap (λ (x : Entry). x.number) i)))
    out w (inr i) = inr (inr (subst (λ l. IsAmong w (running l)) (sym hb) i))
finishes past b r [] e h k c hb hw hq = false_true h
finishes past b r (Filling q ∷ bs) e h k c hb hw hq = false_true h
finishes past b r (Draining q ∷ bs) e h k c hb hw hq = false_true h
finishes past b r (Upgrading n ∷ bs) e h k c hb hw hq = false_true h

-- a reaction is dropped
drops : (past : List Event) (b : Book) (r : ℕ) → Follows past b → Follows (Dropped r ∷ past) (after b (Dropped r))
drops past b r k =
    record {
      told = λ w i. k.told w (line w i);
      runs = λ w i. inr (k.runs w i);
      fits = k.fits;
      ends = λ w i. ⊎_elim (λ j. go w j (w.number == r) refl)
          (λ j. inr (more_begun past (Dropped r) (running b.brackets) (running b.brackets) w (λ a. inr (inr a)) j)) (k.ends w (line w i));
    }
  where
    line : (w : Entry) → Says (Dropped r ∷ past) (enqueue_line w) → Says past (enqueue_line w)
    line w s = ⊎_elim (λ i. absurd (let j : Dropped r ≡ enqueue_line w = i in cc)) (λ i. i) s

    go : (w : Entry) → IsAmong w b.waiting → (t : Bool) → w.number == r ≡ t →
        IsAmong w (without r b.waiting) ⊎ IsBegun (Dropped r ∷ past) (running b.brackets) w
    go w j true is = inr (inr (inl (inl (ap Dropped (sym (eqb-true w.number r is))))))
    go w j false is = inl (without_among r b.waiting w (eqb-false w.number r is) j)

-- brackets of queues and upgrades

pub record Same (bs cs : List Bracket) : Type 0 where
  pub running : running cs ≡ running bs
  pub fits : Fits bs → Fits cs

begun_drain : (q : ℕ) (bs : List Bracket) → begins_drain q bs ≡ true → Same bs (Draining q ∷ around bs)
begun_drain q [] h = record { running = refl; fits = λ f. ((λ w i. absurd i), tt) }
begun_drain q (Filling m ∷ bs) h = record { running = refl; fits = λ f. subst (λ x. Fits (Draining x ∷ bs)) (eqb-true m q h) f }
begun_drain q (Draining m ∷ bs) h = false_true h
begun_drain q (Reacting w called ∷ bs) h = false_true h
begun_drain q (Upgrading n ∷ bs) h = false_true h

ended_drain : (q : ℕ) (bs : List Bracket) → ends_drain q bs ≡ true → Same bs (around bs)
ended_drain q (Draining m ∷ bs) h = record { running = refl; fits = λ f. f.1 }
ended_drain q [] h = false_true h
ended_drain q (Filling m ∷ bs) h = false_true h
ended_drain q (Reacting w called ∷ bs) h = false_true h
ended_drain q (Upgrading n ∷ bs) h = false_true h

ended_upgrade : (n : ℕ) (bs : List Bracket) → ends_upgrade n bs ≡ true → Same bs (around bs)
ended_upgrade n (Upgrading m ∷ bs) h = record { running = refl; fits = λ f. f }
ended_upgrade n [] h = false_true h
ended_upgrade n (Filling m ∷ bs) h = false_true h
ended_upgrade n (Draining m ∷ bs) h = false_true h
ended_upgrade n (Reacting w called ∷ bs) h = false_true h

marked_call : (c : Option (ℕ × CallName)) (bs : List Bracket) → Same bs (marked c bs)
marked_call None bs = record { running = refl; fits = λ f. f }
marked_call (Some c) [] = record { running = refl; fits = λ f. f }
marked_call (Some c) (Filling q ∷ bs) = record { running = refl; fits = λ f. f }
marked_call (Some c) (Draining q ∷ bs) = record { running = refl; fits = λ f. f }
marked_call (Some c) (Reacting w called ∷ bs) = record { running = refl; fits = λ f. f }
marked_call (Some c) (Upgrading n ∷ bs) = record { running = refl; fits = λ f. f }

same_stays : (past : List Event) (b : Book) (e : Event) (c : Book) → Follows past b → ((w : Entry) → e ≡ enqueue_line w → ⊥) →
    Same b.brackets c.brackets → c.waiting ≡ b.waiting → c.queues ≡ b.queues → Follows (e ∷ past) c
same_stays past b e c k no_line s hw hq = stays past b e c k no_line s.running (s.fits k.fits) hw (omega (arith, hq))

follows_step : (past : List Event) (b : Book) (e : Event) → Follows past b → Pushed past b → Kept past b → Keeps b e → Follows (e ∷ past) (after b e)
follows_step past b (Enqueued r n what q) k p kept h =
    enqueues past b (record { number = r; element = n; what = what; queue = q }) k p
    (eqb-true q (current b.brackets) (right_true (r == b.numbers + 1) (q == current b.brackets) h.counts))
follows_step past b (QueueOpened q) k p kept h =
    let number = eqb-true q (b.queues + 1) h.counts in
    stays past b (QueueOpened q) (after b (QueueOpened q)) k (λ w i. absurd cc) refl
    ((λ w i. let f = k.told w (k.runs w i) in omega (arith, f, number)), k.fits) refl (omega (arith, number))
follows_step past b (DrainBegun q) k p kept h =
    same_stays past b (DrainBegun q) (after b (DrainBegun q)) k (λ w i. absurd cc)
    (begun_drain q b.brackets (left_true (begins_drain q b.brackets) _ h.nested)) refl refl
follows_step past b (QueueClosed q) k p kept h =
    same_stays past b (QueueClosed q) (after b (QueueClosed q)) k (λ w i. absurd cc)
    (ended_drain q b.brackets (left_true (ends_drain q b.brackets) _ h.nested)) refl refl
follows_step past b (Started r) k p kept h =
    starts past b r (entry_of r b.waiting) refl
    (left_true (is_some (entry_of r b.waiting)) (is_in_drain b.brackets) (left_true (is_some (entry_of r b.waiting) && is_in_drain b.brackets) _ h.runs)) k kept
follows_step past b (Finished r) k p kept h =
    finishes past b r b.brackets refl (left_true (ends_reaction r b.brackets) _ h.nested) k (after b (Finished r)) refl refl refl
follows_step past b (Dropped r) k p kept h = drops past b r k
follows_step past b (UpgradeBegun n) k p kept h =
    same_stays past b (UpgradeBegun n) (after b (UpgradeBegun n)) k (λ w i. absurd cc) (record { running = refl; fits = λ f. f }) refl refl
follows_step past b (UpgradeDone n) k p kept h =
    same_stays past b (UpgradeDone n) (after b (UpgradeDone n)) k (λ w i. absurd cc)
    (ended_upgrade n b.brackets (left_true (ends_upgrade n b.brackets) _ h.nested)) refl refl
follows_step past b (UpgradeThrew n) k p kept h =
    same_stays past b (UpgradeThrew n) (after b (UpgradeThrew n)) k (λ w i. absurd cc)
    (ended_upgrade n b.brackets (left_true (ends_upgrade n b.brackets) _ h.nested)) refl refl
follows_step past b e k p kept h = same_stays past b e (after b e) k (λ w i. absurd cc) (marked_call (call_of e) b.brackets) refl refl

-- all three
record All (past : List Event) (b : Book) : Type 0 where
  ends : Follows past b
  pushed : Pushed past b
  kept : Kept past b

all_first : All [] blank
all_first = record { ends = follows_first; pushed = pushed_first; kept = kept_first }

all_step : (past : List Event) (b : Book) (e : Event) → All past b → Keeps b e → All (e ∷ past) (after b e)
all_step past b e a h = record {
  ends = follows_step past b e a.ends a.pushed a.kept h;
  pushed = pushed_step past b e a.pushed h;
  kept = kept_step past b e a.kept h;
}

-- none that runs was enqueued with the queue that ends
none_runs : (q : ℕ) (bs : List Bracket) (w : Entry) → ends_drain q bs ≡ true → Fits bs → IsAmong w (running bs) → w.queue ≡ q → ⊥
none_runs q (Draining m ∷ bs) w h f i e = let lt = f.0 w i in let is = eqb-true m q h in absurd (omega (arith, lt, is, e))
none_runs q [] w h f i e = i
none_runs q (Filling m ∷ bs) w h f i e = false_true h
none_runs q (Reacting v called ∷ bs) w h f i e = false_true h
none_runs q (Upgrading n ∷ bs) w h f i e = false_true h

pub close_ends_all : (before behind : List Event) (q : ℕ) (w : Entry) → Lawful (before ++ QueueClosed q ∷ behind) → Says before (enqueue_line w) →
    w.queue ≡ q → Says before (Finished w.number) ⊎ Says before (Dropped w.number)
close_ends_all before behind q w h i e =
    let a = at All all_first all_step before (QueueClosed q) behind h in
    let b = read blank before in
    ⊎_elim (λ j. absurd (none_of_queue_says q b.waiting w a.keeps.closes j e)) (λ j. go j) (a.past.ends.ends w (says_turned before (enqueue_line w) i))
  where
    b : Book
    b = read blank before

    runs : IsAmong w (running b.brackets) → ⊥
    runs j = let a = at All all_first all_step before (QueueClosed q) behind h in
        none_runs q b.brackets w (left_true (ends_drain q b.brackets) _ a.keeps.nested) a.past.ends.fits j e

    go : IsBegun (past_of before []) (running b.brackets) w → Says before (Finished w.number) ⊎ Says before (Dropped w.number)
    go (inl j) = inl (says_back before (Finished w.number) j)
    go (inr (inl j)) = inr (says_back before (Dropped w.number) j)
    go (inr (inr j)) = absurd (runs j)
