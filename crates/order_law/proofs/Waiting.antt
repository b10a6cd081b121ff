-- What waits in the book is what waits in the log.
use Rattle.std.proofs.Common.{◌≡◌, ℕ, ◌+◌, ◌≤◌, Bool, true, false, List, [], ◌∷◌, ◌++◌, Option, Some, None, refl, sym, ap, ◌∙◌, subst, arith, ⊎_elim, inl, inr}
use Rattle.std.specs.Prelude.{◌⊎◌, ◌&&◌, ◌==◌, is_some}
use Rattle.std.proofs.lemmas.Bool.{eqb-true, eqb-false}
use Rattle.ce_events.specs.declared.event.Event.{Event}
use Rattle.ce_events.specs.declared.event.Event.TheVariants.{Enqueued, Started, Dropped}
use Rattle.order_law.specs.Book.{Book, Entry, blank}
use Rattle.order_law.specs.Reads.{entry_of, without, current}
use Rattle.order_law.specs.Clauses.{is_in_drain}
use Rattle.order_law.specs.After.{after, started}
use Rattle.order_law.specs.Words.{Says, IsTaken, Waits, enqueue_line}
use Rattle.order_law.proofs.Fronts.{left_true}
use Rattle.order_law.proofs.Walk.{Keeps}
use Rattle.order_law.proofs.Entries.{IsAmong, Rising, rising_append, rising_without, among_append, among_more, among_last, among_without, without_among}
use Rattle.order_law.proofs.Entries.{gone_without, found_among}

-- what an event does to what waits: it enqueues a reaction, takes one, or neither
pub data Change (b : Book) (e : Event) : Type 0 where
  Adds : (w : Entry) → e ≡ enqueue_line w → w.number ≡ b.numbers + 1 → (after b e).waiting ≡ b.waiting ++ w ∷ [] → (after b e).numbers ≡ w.number → Change b e
  Takes : (w : Entry) → (e ≡ Started w.number) ⊎ (e ≡ Dropped w.number) → entry_of w.number b.waiting ≡ Some w →
      (after b e).waiting ≡ without w.number b.waiting → (after b e).numbers ≡ b.numbers → Change b e
  Leaves : ((w : Entry) → e ≡ enqueue_line w → ⊥) → ((r : ℕ) → e ≡ Started r → ⊥) → ((r : ℕ) → e ≡ Dropped r → ⊥) → (after b e).waiting ≡ b.waiting →
      (after b e).numbers ≡ b.numbers → Change b e

starts : (b : Book) (r : ℕ) (o : Option Entry) → entry_of r b.waiting ≡ o → is_some o && is_in_drain b.brackets ≡ true → Change b (Started r)
starts b r None e h = absurd (let k : false ≡ true = h in cc)
starts b r (Some w) e h =
    let number = (found_among r b.waiting w e).1 in
    Takes w (inl (ap Started (sym number))) (subst (λ x. entry_of x b.waiting ≡ Some w) (sym number) e) (ap (λ o. (started o b).waiting) e)
    (ap (λ o. (started o b).numbers) e)

drops : (b : Book) (r : ℕ) (o : Option Entry) → entry_of r b.waiting ≡ o → is_some o ≡ true → Change b (Dropped r)
drops b r None e h = absurd (let k : false ≡ true = h in cc)
drops b r (Some w) e h =
    let number = (found_among r b.waiting w e).1 in
    Takes w (inr (ap Dropped (sym number))) (subst (λ x. entry_of x b.waiting ≡ Some w) (sym number) e) (ap (λ x. without x b.waiting) (sym number)) refl

pub change : (b : Book) (e : Event) → Keeps b e → Change b e
change b (Enqueued r n what q) h =
    Adds (record { number = r; element = n; what = what; queue = q }) refl
    (eqb-true r (b.numbers + 1) (left_true (r == b.numbers + 1) (q == current b.brackets) h.counts)) refl refl
change b (Started r) h = starts b r (entry_of r b.waiting) refl (left_true _ _ h.runs)
change b (Dropped r) h = drops b r (entry_of r b.waiting) refl (left_true _ _ h.runs)
change b e h = Leaves (λ w i. absurd cc) (λ r i. absurd cc) (λ r i. absurd cc) refl refl

-- the book and what was read
pub record Kept (past : List Event) (b : Book) : Type 0 where
  pub waits : (w : Entry) → IsAmong w b.waiting → Waits past w
  pub among : (w : Entry) → Waits past w → IsAmong w b.waiting
  pub rising : Rising 0 b.waiting
  pub below : (w : Entry) → Says past (enqueue_line w) → w.number ≤ b.numbers
  pub taken : (r : ℕ) → IsTaken past r → r ≤ b.numbers

pub kept_first : Kept [] blank
kept_first =
    record {
      waits = λ w i. absurd i;
      among = λ w i. absurd i.0;
      rising = tt;
      below = λ w i. absurd i;
      taken = λ r i. absurd (⊎_elim (λ x. x) (λ x. x) i);
    }

-- the reaction of an enqueue's line
of_line : Event → Option Entry
of_line (Enqueued r n what q) = Some (record { number = r; element = n; what = what; queue = q })
of_line e = None

pub same_line : (v w : Entry) → enqueue_line v ≡ enqueue_line w → v ≡ w
unfolding of_line
same_line v w h = let k : Some v ≡ Some w = ap of_line h in cc

more_taken : (past : List Event) (e : Event) (r : ℕ) → IsTaken past r → IsTaken (e ∷ past) r
more_taken past e r (inl s) = inl (inr s)
more_taken past e r (inr s) = inr (inr s)

less_taken : (past : List Event) (e : Event) (r : ℕ) → (e ≡ Started r → ⊥) → (e ≡ Dropped r → ⊥) → IsTaken (e ∷ past) r → IsTaken past r
less_taken past e r f g (inl (inl i)) = absurd (f i)
less_taken past e r f g (inl (inr s)) = inl s
less_taken past e r f g (inr (inl i)) = absurd (g i)
less_taken past e r f g (inr (inr s)) = inr s

adds : (past : List Event) (b : Book) (e : Event) (w : Entry) → Kept past b → e ≡ enqueue_line w → w.number ≡ b.numbers + 1 →
    (waiting : List Entry) → waiting ≡ b.waiting ++ w ∷ [] → (numbers : ℕ) → numbers ≡ w.number → (c : Book) → c.waiting ≡ waiting →
    c.numbers ≡ numbers → Kept (e ∷ past) c
adds past b e w k is number waiting h numbers n c hw hn =
    record {
      waits = λ v i. ⊎_elim (λ j. (inr (k.waits v j).0, λ t. (k.waits v j).1 (less v t))) (λ j. (inl (is ∙ ap enqueue_line j), λ t. fresh v j (less v t)))
          (among_append b.waiting w v (subst (IsAmong v) (hw ∙ h) i));
      among = λ v i. subst (IsAmong v) (sym (hw ∙ h))
          (⊎_elim (λ j. subst (λ x. IsAmong x (b.waiting ++ w ∷ [])) (same_line w v (sym is ∙ j)) (among_last b.waiting w))
          (λ j. among_more b.waiting w v (k.among v (j, λ t. i.1 (more_taken past e v.number t)))) i.0);
      rising = subst (Rising 0) (sym (hw ∙ h))
          (rising_append 0 b.numbers b.waiting w k.rising (λ v i. k.below v (k.waits v i).0) (omega (arith)) (omega (arith, number)));
      below = λ v i. ⊎_elim (λ j. let f = ap (λ (x : Entry). x.number) (same_line w v (sym is ∙ j)) in omega (arith, f, n, hn))
          (λ j. let f = k.below v j in omega (arith, f, number, n, hn)) i;
      taken = λ r t. let f = k.taken r
          (less_taken past e r (λ i. let j : enqueue_line w ≡ Started r = sym is ∙ i in cc) (λ i. let j : enqueue_line w ≡ Dropped r = sym is ∙ i in cc) t) in
          omega (arith, f, number, n, hn);
    }
  where
    less : (v : Entry) → IsTaken (e ∷ past) v.number → IsTaken past v.number
    less v t = less_taken past e v.number (λ i. let j : enqueue_line w ≡ Started v.number = sym is ∙ i in cc)
        (λ i. let j : enqueue_line w ≡ Dropped v.number = sym is ∙ i in cc) t

    fresh : (v : Entry) → w ≡ v → IsTaken past v.number → ⊥
    fresh v j t = let f = k.taken v.number t in let g = ap (λ (x : Entry). x.number) j in omega (arith, f, g, number)

takes : (past : List Event) (b : Book) (e : Event) (w : Entry) → Kept past b → (e ≡ Started w.number) ⊎ (e ≡ Dropped w.number) →
    entry_of w.number b.waiting ≡ Some w → (c : Book) → c.waiting ≡ without w.number b.waiting → c.numbers ≡ b.numbers → Kept (e ∷ past) c
takes past b e w k is found c hw hn =
    record {
      waits = λ v i. let j = subst (IsAmong v) hw i in let old =
          k.waits v (among_without w.number b.waiting v j) in (inr old.0, λ t. old.1 (less v.number (gone_without 0 w.number b.waiting v k.rising j) t));
      among = λ v i. subst (IsAmong v) (sym hw)
          (without_among w.number b.waiting v (λ j. i.1 (now v.number j)) (k.among v (line v i.0, λ t. i.1 (more_taken past e v.number t))));
      rising = subst (Rising 0) (sym hw) (rising_without 0 w.number b.waiting k.rising);
      below = λ v i. let f = k.below v (line v i) in omega (arith, f, hn);
      taken = λ r t. go r t (r == w.number) refl;
    }
  where
    now : (r : ℕ) → r ≡ w.number → IsTaken (e ∷ past) r
    now r j = ⊎_elim (λ x. inl (inl (x ∙ ap Started (sym j)))) (λ x. inr (inl (x ∙ ap Dropped (sym j)))) is

    number_of : Event → ℕ
    number_of (Started r) = r
    number_of (Dropped r) = r
    number_of x = 0

    same : (r : ℕ) → (e ≡ Started r) ⊎ (e ≡ Dropped r) → r ≡ w.number
    same r h = ⊎_elim (λ x. sym (ap number_of x)) (λ x. sym (ap number_of x)) h ∙ ⊎_elim (λ x. ap number_of x) (λ x. ap number_of x) is

    less : (r : ℕ) → (r ≡ w.number → ⊥) → IsTaken (e ∷ past) r → IsTaken past r
    less r other t = less_taken past e r (λ i. other (same r (inl i))) (λ i. other (same r (inr i))) t

    line : (v : Entry) → Says (e ∷ past) (enqueue_line v) → Says past (enqueue_line v)
    line v (inl i) = absurd (⊎_elim (λ x. let j : enqueue_line v ≡ Started w.number = sym i ∙ x in cc)
        (λ x. let j : enqueue_line v ≡ Dropped w.number = sym i ∙ x in cc) is)
    line v (inr i) = i

    go : (r : ℕ) → IsTaken (e ∷ past) r → (t : Bool) → r == w.number ≡ t → r ≤ c.numbers
    go r s true h = let i = found_among w.number b.waiting w found in let f = k.below w (k.waits w i.0).0 in let g =
        eqb-true r w.number h in omega (arith, f, g, hn)
    go r s false h = let f = k.taken r (less r (eqb-false r w.number h) s) in omega (arith, f, hn)

stays : (past : List Event) (b : Book) (e : Event) → Kept past b → ((w : Entry) → e ≡ enqueue_line w → ⊥) → ((r : ℕ) → e ≡ Started r → ⊥) →
    ((r : ℕ) → e ≡ Dropped r → ⊥) → (c : Book) → c.waiting ≡ b.waiting → c.numbers ≡ b.numbers → Kept (e ∷ past) c
stays past b e k no_line no_start no_drop c hw hn =
    record {
      waits = λ v i. let old = k.waits v (subst (IsAmong v) hw i) in (inr old.0, λ t. old.1 (less v.number t));
      among = λ v i. subst (IsAmong v) (sym hw) (k.among v (line v i.0, λ t. i.1 (more_taken past e v.number t)));
      rising = subst (Rising 0) (sym hw) k.rising;
      below = λ v i. let f = k.below v (line v i) in omega (arith, f, hn);
      taken = λ r t. let f = k.taken r (less r t) in omega (arith, f, hn);
    }
  where
    less : (r : ℕ) → IsTaken (e ∷ past) r → IsTaken past r
    less r t = less_taken past e r (no_start r) (no_drop r) t

    line : (v : Entry) → Says (e ∷ past) (enqueue_line v) → Says past (enqueue_line v)
    line v (inl i) = absurd (no_line v i)
    line v (inr i) = i

pub kept_step : (past : List Event) (b : Book) (e : Event) → Kept past b → Keeps b e → Kept (e ∷ past) (after b e)
kept_step past b e k h = go (change b e h)
  where
    go : Change b e → Kept (e ∷ past) (after b e)
    go (Adds w is number waiting numbers) = adds past b e w k is number (b.waiting ++ w ∷ []) refl w.number refl (after b e) waiting numbers
    go (Takes w is found waiting numbers) = takes past b e w k is found (after b e) waiting numbers
    go (Leaves no_line no_start no_drop waiting numbers) = stays past b e k no_line no_start no_drop (after b e) waiting numbers
