-- The queues that fill, in the book and in the log.
use Rattle.std.proofs.Common.{◌≡◌, ℕ, ◌+◌, ◌<◌, ◌≤◌, true, List, [], ◌∷◌, ◌++◌, Option, Some, None, refl, sym, ap, ◌∙◌, subst, arith, ⊎_elim, inl, inr}
use Rattle.std.specs.Prelude.{◌⊎◌, ◌==◌}
use Rattle.std.proofs.lemmas.Bool.{eqb-true}
use Rattle.rule_tokens.specs.declared.callback.CallName.{CallName}
use Rattle.rule_tokens.specs.declared.callback.CallOrUpgrade.{CallOrUpgrade}
use Rattle.ce_events.specs.Calls.{call_of}
use Rattle.ce_events.specs.declared.event.Event.{Event}
use Rattle.ce_events.specs.declared.event.Event.TheVariants.{Enqueued, QueueOpened, DrainBegun, Started, Finished, QueueClosed, UpgradeBegun, UpgradeDone}
use Rattle.ce_events.specs.declared.event.Event.TheVariants.{UpgradeThrew}
use Rattle.order_law.specs.Book.{Book, Entry, Bracket, Filling, Draining, Reacting, Upgrading, blank}
use Rattle.order_law.specs.Reads.{entry_of, fillings, current, around}
use Rattle.order_law.specs.Clauses.{begins_drain, ends_drain, ends_reaction, ends_upgrade}
use Rattle.order_law.specs.After.{after, started, marked}
use Rattle.order_law.specs.Law.{read, Lawful}
use Rattle.order_law.specs.Words.{Says, IsFilling, IsCurrent}
use Rattle.order_law.proofs.Fronts.{left_true, right_true, false_true}
use Rattle.order_law.proofs.Walk.{Keeps, at, past_of, says_turned, says_back}
use Rattle.order_law.proofs.Entries.{IsIn}
use Rattle.order_law.proofs.Upgrading.{start_unmoved}

-- each is above those around it
abbrev pub Descending : List ℕ → Type 0
Descending [] = Unit {0}
Descending (m ∷ ms) = ((q : ℕ) → IsIn q ms → q < m) × Descending ms

pub record Pushed (past : List Event) (b : Book) : Type 0 where
  pub filling : (q : ℕ) → IsIn q (fillings b.brackets) → IsFilling past q
  pub among : (q : ℕ) → IsFilling past q → IsIn q (fillings b.brackets)
  pub falls : Descending (fillings b.brackets)
  pub below : (q : ℕ) → Says past (QueueOpened q) → q ≤ b.queues
  pub begun : (q : ℕ) → Says past (DrainBegun q) → q ≤ b.queues

pub pushed_first : Pushed [] blank
pushed_first = record { filling = λ q i. absurd i; among = λ q i. absurd i.0; falls = tt; below = λ q i. absurd i; begun = λ q i. absurd i }

-- an event that neither pushes a queue nor begins to drain one
same : (past : List Event) (b : Book) (e : Event) (c : Book) → Pushed past b → ((q : ℕ) → e ≡ QueueOpened q → ⊥) → ((q : ℕ) → e ≡ DrainBegun q → ⊥) →
    fillings c.brackets ≡ fillings b.brackets → c.queues ≡ b.queues → Pushed (e ∷ past) c
same past b e c k no_push no_drain hf hq =
    record {
      filling = λ q i. let f = k.filling q (subst (IsIn q) hf i) in (inr f.0, λ s. ⊎_elim (λ j. no_drain q j) (λ j. f.1 j) s);
      among = λ q i. subst (IsIn q) (sym hf) (k.among q (⊎_elim (λ j. absurd (no_push q j)) (λ j. j) i.0, λ s. i.1 (inr s)));
      falls = subst Descending (sym hf) k.falls;
      below = λ q i. let f = k.below q (⊎_elim (λ j. absurd (no_push q j)) (λ j. j) i) in omega (arith, f, hq);
      begun = λ q i. let f = k.begun q (⊎_elim (λ j. absurd (no_drain q j)) (λ j. j) i) in omega (arith, f, hq);
    }

abbrev queue_of : Event → ℕ
queue_of (QueueOpened q) = q
queue_of (DrainBegun q) = q
queue_of e = 0

pushes : (past : List Event) (b : Book) (q : ℕ) → Pushed past b → q ≡ b.queues + 1 → Pushed (QueueOpened q ∷ past) (after b (QueueOpened q))
pushes past b q k number =
    record {
      filling = λ p i. ⊎_elim (λ j. (inl (ap QueueOpened j), λ s. fresh p j s)) (λ j. let f = k.filling p j in (inr f.0, λ s. f.1 (drained p s))) i;
      among = λ p i. ⊎_elim (λ j. inl (ap queue_of j)) (λ j. inr (k.among p (j, λ s. i.1 (inr s)))) i.0;
      falls = (λ p i. let f = k.below p (k.filling p i).0 in omega (arith, f, number), k.falls);
      below = λ p i. ⊎_elim (λ j. let f = ap queue_of j in omega (arith, f)) (λ j. let f = k.below p j in omega (arith, f, number)) i;
      begun = λ p i. let f = k.begun p (drained p i) in omega (arith, f, number);
    }
  where
    drained : (p : ℕ) → Says (QueueOpened q ∷ past) (DrainBegun p) → Says past (DrainBegun p)
    drained p s = ⊎_elim (λ j. absurd (let f : QueueOpened q ≡ DrainBegun p = j in cc)) (λ j. j) s

    fresh : (p : ℕ) → q ≡ p → Says (QueueOpened q ∷ past) (DrainBegun p) → ⊥
    fresh p j s = let f = k.begun p (drained p s) in absurd (omega (arith, f, j, number))

no_push : (past : List Event) (q p : ℕ) → Says (DrainBegun q ∷ past) (QueueOpened p) → Says past (QueueOpened p)
no_push past q p s = ⊎_elim (λ j. absurd (let f : DrainBegun q ≡ QueueOpened p = j in cc)) (λ j. j) s

-- the innermost queue that fills begins to drain
drains : (past : List Event) (b : Book) (q : ℕ) (ms : List ℕ) (c : Book) → Pushed past b → fillings b.brackets ≡ q ∷ ms → fillings c.brackets ≡ ms →
    c.queues ≡ b.queues → Pushed (DrainBegun q ∷ past) c
drains past b q ms c k hb hc hq =
    record {
      filling = λ p i. let j = subst (IsIn p) hc i in let f =
          k.filling p (subst (IsIn p) (sym hb) (inr j)) in
          (inr f.0, λ s. ⊎_elim (λ e. let g = ap queue_of e in let lt = falls.0 p j in absurd (omega (arith, g, lt))) (λ e. f.1 e) s);
      among = λ p i. subst (IsIn p) (sym hc)
          (⊎_elim (λ j. absurd (i.1 (inl (ap DrainBegun j)))) (λ j. j) (subst (IsIn p) hb (k.among p (no_push past q p i.0, λ s. i.1 (inr s)))));
      falls = subst Descending (sym hc) falls.1;
      below = λ p i. let f = k.below p (no_push past q p i) in omega (arith, f, hq);
      begun = λ p i. ⊎_elim (λ e. let g = ap queue_of e in let f = k.below q (k.filling q (subst (IsIn q) (sym hb) (inl refl))).0 in
          omega (arith, f, g, hq)) (λ e. let f = k.begun p e in omega (arith, f, hq)) i;
    }
  where
    falls : Descending (q ∷ ms)
    falls = subst Descending hb k.falls

-- none fills: the backup element queue begins to drain
checks : (past : List Event) (b : Book) (c : Book) → Pushed past b → fillings b.brackets ≡ [] → fillings c.brackets ≡ [] → c.queues ≡ b.queues →
    Pushed (DrainBegun 0 ∷ past) c
checks past b c k hb hc hq =
    record {
      filling = λ p i. absurd (subst (IsIn p) hc i);
      among = λ p i. absurd (subst (IsIn p) hb (k.among p (no_push past 0 p i.0, λ s. i.1 (inr s))));
      falls = subst Descending (sym hc) tt;
      below = λ p i. let f = k.below p (no_push past 0 p i) in omega (arith, f, hq);
      begun = λ p i. ⊎_elim (λ e. let g = ap queue_of e in omega (arith, g)) (λ e. let f = k.begun p e in omega (arith, f, hq)) i;
    }

begins : (past : List Event) (b : Book) (q : ℕ) → Pushed past b → (bs : List Bracket) → b.brackets ≡ bs → begins_drain q bs ≡ true →
    Pushed (DrainBegun q ∷ past) (after b (DrainBegun q))
begins past b q k [] e h =
    let c = after b (DrainBegun q) in
    subst (λ x. Pushed (DrainBegun x ∷ past) c) (sym (eqb-true q 0 h)) (checks past b c k (ap fillings e) (ap (λ bs. fillings (around bs)) e) refl)
begins past b q k (Filling m ∷ bs) e h =
    let same = eqb-true m q h in
    drains past b q (fillings bs) (after b (DrainBegun q)) k (ap fillings e ∙ ap (λ x. x ∷ fillings bs) same) (ap (λ x. fillings (around x)) e) refl
begins past b q k (Draining m ∷ bs) e h = false_true h
begins past b q k (Reacting w called ∷ bs) e h = false_true h
begins past b q k (Upgrading n ∷ bs) e h = false_true h

-- where another bracket begins, ends or is marked, the same queues fill
ended_drain : (q : ℕ) (bs : List Bracket) → ends_drain q bs ≡ true → fillings (around bs) ≡ fillings bs
ended_drain q (Draining m ∷ bs) h = refl
ended_drain q [] h = refl
ended_drain q (Filling m ∷ bs) h = false_true h
ended_drain q (Reacting w called ∷ bs) h = false_true h
ended_drain q (Upgrading n ∷ bs) h = false_true h

ended_reaction : (r : ℕ) (bs : List Bracket) → ends_reaction r bs ≡ true → fillings (around bs) ≡ fillings bs
ended_reaction r (Reacting w called ∷ bs) h = refl
ended_reaction r [] h = refl
ended_reaction r (Filling m ∷ bs) h = false_true h
ended_reaction r (Draining m ∷ bs) h = false_true h
ended_reaction r (Upgrading n ∷ bs) h = false_true h

ended_upgrade : (n : ℕ) (bs : List Bracket) → ends_upgrade n bs ≡ true → fillings (around bs) ≡ fillings bs
ended_upgrade n (Upgrading m ∷ bs) h = refl
ended_upgrade n [] h = refl
ended_upgrade n (Filling m ∷ bs) h = false_true h
ended_upgrade n (Draining m ∷ bs) h = false_true h
ended_upgrade n (Reacting w called ∷ bs) h = false_true h

begun_reaction : (o : Option Entry) (b : Book) → fillings (started o b).brackets ≡ fillings b.brackets
begun_reaction None b = refl
begun_reaction (Some w) b = refl

marked_call : (c : Option (ℕ × CallName)) (bs : List Bracket) → fillings (marked c bs) ≡ fillings bs
marked_call None bs = refl
marked_call (Some c) [] = refl
marked_call (Some c) (Filling q ∷ bs) = refl
marked_call (Some c) (Draining q ∷ bs) = refl
marked_call (Some c) (Reacting w called ∷ bs) = refl
marked_call (Some c) (Upgrading n ∷ bs) = refl

pub pushed_step : (past : List Event) (b : Book) (e : Event) → Pushed past b → Keeps b e → Pushed (e ∷ past) (after b e)
pushed_step past b (QueueOpened q) k h = pushes past b q k (eqb-true q (b.queues + 1) h.counts)
pushed_step past b (DrainBegun q) k h = begins past b q k b.brackets refl (left_true (begins_drain q b.brackets) _ h.nested)
pushed_step past b (QueueClosed q) k h =
    same past b (QueueClosed q) (after b (QueueClosed q)) k (λ p i. absurd cc) (λ p i. absurd cc)
    (ended_drain q b.brackets (left_true (ends_drain q b.brackets) _ h.nested)) refl
pushed_step past b (Started r) k h =
    same past b (Started r) (after b (Started r)) k (λ p i. absurd cc) (λ p i. absurd cc) (begun_reaction (entry_of r b.waiting) b)
    (start_unmoved (entry_of r b.waiting) b).queues
pushed_step past b (Finished r) k h =
    same past b (Finished r) (after b (Finished r)) k (λ p i. absurd cc) (λ p i. absurd cc)
    (ended_reaction r b.brackets (left_true (ends_reaction r b.brackets) _ h.nested)) refl
pushed_step past b (UpgradeDone n) k h =
    same past b (UpgradeDone n) (after b (UpgradeDone n)) k (λ p i. absurd cc) (λ p i. absurd cc)
    (ended_upgrade n b.brackets (left_true (ends_upgrade n b.brackets) _ h.nested)) refl
pushed_step past b (UpgradeThrew n) k h =
    same past b (UpgradeThrew n) (after b (UpgradeThrew n)) k (λ p i. absurd cc) (λ p i. absurd cc)
    (ended_upgrade n b.brackets (left_true (ends_upgrade n b.brackets) _ h.nested)) refl
pushed_step past b (UpgradeBegun n) k h = same past b (UpgradeBegun n) (after b (UpgradeBegun n)) k (λ p i. absurd cc) (λ p i. absurd cc) refl refl
pushed_step past b (Enqueued r n what q) k h =
    same past b (Enqueued r n what q) (after b (Enqueued r n what q)) k (λ p i. absurd cc) (λ p i. absurd cc) refl refl
pushed_step past b e k h = same past b e (after b e) k (λ p i. absurd cc) (λ p i. absurd cc) (marked_call (call_of e) b.brackets) refl

-- the current queue

pub current_of : (bs : List Bracket) → (current bs ≡ 0) × (fillings bs ≡ []) ⊎ IsIn (current bs) (fillings bs)
current_of [] = inl (refl, refl)
current_of (Filling q ∷ bs) = inr (inl refl)
current_of (Draining q ∷ bs) = current_of bs
current_of (Reacting w called ∷ bs) = current_of bs
current_of (Upgrading n ∷ bs) = current_of bs

greatest : (bs : List Bracket) → Descending (fillings bs) → (p : ℕ) → IsIn p (fillings bs) → p ≤ current bs
greatest [] h p i = absurd i
greatest (Filling q ∷ bs) h p (inl i) = omega (arith, i)
greatest (Filling q ∷ bs) h p (inr i) = let lt = h.0 p i in omega (arith, lt)
greatest (Draining q ∷ bs) h p i = greatest bs h p i
greatest (Reacting w called ∷ bs) h p i = greatest bs h p i
greatest (Upgrading n ∷ bs) h p i = greatest bs h p i

filling_turned : (log : List Event) (q : ℕ) → IsFilling log q → IsFilling (past_of log []) q
filling_turned log q i = (says_turned log (QueueOpened q) i.0, λ s. i.1 (says_back log (DrainBegun q) s))

filling_back : (log : List Event) (q : ℕ) → IsFilling (past_of log []) q → IsFilling log q
filling_back log q i = (says_back log (QueueOpened q) i.0, λ s. i.1 (says_turned log (DrainBegun q) s))

pub enqueue_tells_current : (before behind : List Event) (r n q : ℕ) (what : CallOrUpgrade) → Lawful (before ++ Enqueued r n what q ∷ behind) →
    IsCurrent before q
enqueue_tells_current before behind r n q what h =
    let a = at Pushed pushed_first pushed_step before (Enqueued r n what q) behind h in
    let b = read blank before in
    let is = eqb-true q (current b.brackets) (right_true (r == b.numbers + 1) (q == current b.brackets) a.keeps.counts) in
    subst (IsCurrent before) (sym is) (
      ⊎_elim (λ i. inl i.0) (λ i. inr (filling_back before (current b.brackets) (a.past.filling (current b.brackets) i))) (current_of b.brackets),
      λ p i. greatest b.brackets a.past.falls p (a.past.among p (filling_turned before p i)),
    )
