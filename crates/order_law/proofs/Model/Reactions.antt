-- Queues open and begin to drain; reactions start and finish.
use Rattle.std.proofs.Common.{◌≡◌, ℕ, suc, ◌+◌, ◌≤◌, Bool, true, false, List, [], ◌∷◌, ◌++◌, map, None, refl, sym, ap, ◌∙◌, subst, arith, ⊎_elim, inl, inr}
use Rattle.std.specs.Option.{option_and_then}
use Rattle.std.specs.Prelude.{slice_get, ◌==◌, ◌||◌, ◌&&◌, not}
use Rattle.std.proofs.lemmas.Bool.{eq-eqb}
use Rattle.rule_tokens.specs.declared.callback.CallOrUpgrade.{CallOrUpgrade}
use Rattle.rule_tokens.specs.declared.callback.CallOrUpgrade.TheVariants.{Call, Upgrade as IsUpgrade}
use Rattle.reaction_queue.specs.declared.reaction.Reaction.{Reaction}
use Rattle.reaction_queue.specs.Queues.{Open, waiting_at, with_waiting, pushed_queue, popped_queue, current_elements, elements_of, others_of}
use Rattle.reaction_queue.specs.Reactions.{what_of}
use Rattle.ce_events.specs.declared.event.Event.{Event}
use Rattle.ce_events.specs.declared.event.Event.TheVariants.{QueueOpened, DrainBegun, Started, Finished}
use Rattle.ce_algorithms.specs.Page.{Page, definition_of, with_queues}
use Rattle.order_law.specs.Book.{Entry, Filling, Draining, Reacting, Book, blank}
use Rattle.order_law.specs.Reads.{without, is_one_of, is_callback}
use Rattle.std.specs.Prelude.{is_some}
use Rattle.order_law.specs.Clauses.{leads, is_callback_of, is_in_drain, has_called, begins_drain, ends_reaction, goes_on}
use Rattle.order_law.specs.After.{started}
use Rattle.order_law.specs.Reads.{around as outer_of}
use Rattle.order_law.proofs.Model.Reading.{Reads, tested, reads_append, reads_one, told_at, each_without, each_found, first_of}
use Rattle.order_law.proofs.Model.Invariant.{Hold, InSteps, InDrain, InReaction, InUpgrade, InHand, brackets_of, fillings_of, Falling, IsPlaced, is_checkpoint}
use Rattle.order_law.proofs.Model.Invariant.{told, Known, fits, Holds}
use Rattle.order_law.proofs.Model.Rows.{waits_same, waits_other}
use Rattle.ce_base.proofs.Places.{each_number}
use Rattle.order_law.proofs.Entries.{rising_without}
use Rattle.ce_algorithms.specs.Create.{has_any}
use Rattle.order_law.proofs.Model.Each.{each_map}

pub falling_le : (l m : ℕ) (h : List Hold) → l ≤ m → Falling l h → Falling m h
falling_le l m [] le f = tt
falling_le l m (InSteps q ∷ h) le f = (omega (arith, le, f.0), f.1, f.2)
falling_le l m (InDrain q ns ∷ h) le f = (omega (arith, le, f.0), f.1)
falling_le l m (InReaction w called ∷ h) le f = falling_le l m h le f
falling_le l m (InUpgrade n ∷ h) le f = falling_le l m h le f
falling_le l m (InHand n ∷ h) le f = falling_le l m h le f

-- a queue is opened
pub opened_holds : (h : List Hold) (l : List Event) (p : Page) → Holds h l p →
    Holds (InSteps (p.queues.pushed + 1) ∷ h) (l ++ QueueOpened (p.queues.pushed + 1) ∷ []) (with_queues pushed_queue p)
opened_holds h l p k =
    let b = k.book in
    let q = p.queues in
    let m = q.pushed + 1 in
    record {
      book = record b { queues = m; brackets = Filling m ∷ b.brackets; dropping = None };
      reads = reads_append blank l (QueueOpened m ∷ []) b _ k.reads (reads_one b (QueueOpened m) (tested b (QueueOpened m) (record {
        counts = eq-eqb m (b.queues + 1) (ap (λ n. n + 1) (sym k.queues.queues));
        starts = refl;
        calls = refl;
        order = refl;
        throws = refl;
        together = ap (λ o. goes_on o None) k.dropping;
        closes = refl;
        nested = refl;
        paid = refl;
        upgrades = refl;
        quiet = refl;
        rest = refl;
        last = ap not k.over;
      })));
      over = k.over;
      dropping = refl;
      queues = let s = k.queues in record {
        numbers = s.numbers;
        queues = refl;
        rising = s.rising;
        below = s.below;
        waits = s.waits;
        brackets = ap (λ bs. Filling m ∷ bs) s.brackets;
        opens = ap (λ ns. m ∷ ns) s.opens;
        falls = (omega arith, falling_le (suc q.pushed) m h (omega arith) s.falls, omega arith);
        placed = each_map (IsPlaced q.stack q.backup h) (IsPlaced (pushed_queue q).stack q.backup (InSteps m ∷ h)) b.waiting (λ w i. more w i) s.placed;
        owed = s.owed;
      };
      elements = let e = k.elements in
          record {
            known = e.known;
            defined = e.defined;
            unset = e.unset;
            upgraded = e.upgraded;
            thrown = e.thrown;
            document = e.document;
            ongoing = e.ongoing;
          };
    }
  where
    more : (w : Entry) → IsPlaced p.queues.stack p.queues.backup h w
        → IsPlaced (pushed_queue p.queues).stack p.queues.backup (InSteps (p.queues.pushed + 1) ∷ h) w
    more w (inl i) = inl (inr i)
    more w (inr i) = inr i

-- the current queue is popped, and its drain begins
pub drained_holds : (m : ℕ) (h : List Hold) (l : List Event) (p : Page) → Holds (InSteps m ∷ h) l p →
    Holds (InDrain m (current_elements p.queues) ∷ h) (l ++ DrainBegun m ∷ []) (with_queues popped_queue p)
drained_holds m h l p k =
    let b = k.book in
    record {
      book = record b { brackets = brackets_of (InDrain m (current_elements p.queues) ∷ h); dropping = None };
      reads = reads_append blank l (DrainBegun m ∷ []) b _ k.reads
          (subst (λ bs. Reads b (DrainBegun m ∷ []) (record b { brackets = Draining m ∷ bs; dropping = None })) (ap outer_of k.queues.brackets)
          (reads_one b (DrainBegun m) (tested b (DrainBegun m) (record {
            counts = refl;
            starts = refl;
            calls = refl;
            order = refl;
            throws = refl;
            together = ap (λ o. goes_on o None) k.dropping;
            closes = refl;
            nested = ap (begins_drain m) k.queues.brackets ∙ eq-eqb m m refl;
            paid = refl;
            upgrades = refl;
            quiet = refl;
            rest = refl;
            last = ap not k.over;
          }))));
      over = k.over;
      dropping = refl;
      queues = let s = k.queues in record {
        numbers = s.numbers;
        queues = s.queues;
        rising = s.rising;
        below = s.below;
        waits = s.waits;
        brackets = refl;
        opens = pop_opens p.queues.stack s.opens;
        falls = (s.falls.0, s.falls.1);
        placed = each_map (IsPlaced p.queues.stack p.queues.backup (InSteps m ∷ h))
            (IsPlaced (others_of p.queues.stack) p.queues.backup (InDrain m (elements_of p.queues.stack) ∷ h)) b.waiting
            (λ w i. more p.queues.stack s.opens w i) s.placed;
        owed = ⊎_elim (λ x. inl x) (λ x. inr (or_more (has_any p.queues.backup) (m == 0) (is_checkpoint h) x)) s.owed;
      };
      elements = let e = k.elements in
          record {
            known = e.known;
            defined = e.defined;
            unset = e.unset;
            upgraded = e.upgraded;
            thrown = e.thrown;
            document = e.document;
            ongoing = e.ongoing;
          };
    }
  where
    or_more : (a b c : Bool) → a || c ≡ true → a || (b || c) ≡ true
    or_more true b c x = refl
    or_more false true c x = refl
    or_more false false c x = x

    pop_opens : (os : List Open) → map (λ (o : Open). o.number) os ≡ m ∷ fillings_of h → map (λ (o : Open). o.number) (others_of os) ≡ fillings_of h
    pop_opens [] e = absurd (let x : ◌≡◌ {A = List ℕ} [] (m ∷ fillings_of h) = e in cc)
    pop_opens (o ∷ os) e = let x : ◌≡◌ {A = List ℕ} (o.number ∷ map (λ (o : Open). o.number) os) (m ∷ fillings_of h) =
        e in let y : map (λ (o : Open). o.number) os ≡ fillings_of h = cc in y

    more : (os : List Open) → map (λ (o : Open). o.number) os ≡ m ∷ fillings_of h → (w : Entry) → IsPlaced os p.queues.backup (InSteps m ∷ h) w →
        IsPlaced (others_of os) p.queues.backup (InDrain m (elements_of os) ∷ h) w
    more [] e w i = absurd (let x : ◌≡◌ {A = List ℕ} [] (m ∷ fillings_of h) = e in cc)
    more (o ∷ os) e w (inl (inl i)) = let x : ◌≡◌ {A = List ℕ} (o.number ∷ map (λ (o : Open). o.number) os) (m ∷ fillings_of h) = e in let y : o.number ≡ m =
        cc in inr (inl (inl (sym y ∙ i.0, i.1)))
    more (o ∷ os) e w (inl (inr i)) = inl i
    more (o ∷ os) e w (inr (inl i)) = inr (inl (inr i))
    more (o ∷ os) e w (inr (inr i)) = inr (inr i)

-- the first waiting reaction of an element starts
pub started_holds : (q n r : ℕ) (ns : List ℕ) (x : Reaction) (ws : List (ℕ × Reaction)) (h : List Hold) (l : List Event) (p : Page) →
    waiting_at p.queues n ≡ (r, x) ∷ ws → Holds (InDrain q ns ∷ h) l p
    → (w : Entry) × (w.number ≡ r) × (w.element ≡ n) × (w.what ≡ what_of x) × (fits (what_of x) (definition_of p n) ≡ true) × Known p.elements n
    × Holds (InReaction w false ∷ InDrain q ns ∷ h) (l ++ Started r ∷ []) (with_queues (with_waiting n ws) p)
started_holds q n r ns x ws h l p is k =
    let b = k.book in
    let s = k.queues in
    let g = InDrain q ns ∷ h in
    let f = first_of n r (what_of x) (map told ws) 0 b.waiting s.rising (s.waits n ∙ ap (map told) is) in
    let w : Entry = record { number = r; element = n; what = what_of x; queue = f.queue } in
    let known : Known p.elements n = each_found (λ w. Known p.elements w.element) r b.waiting w f.found k.elements.known in
    let fitting : fits (what_of x) (definition_of p n) ≡ true =
    each_found (λ w. fits w.what (definition_of p w.element) ≡ true) r b.waiting w f.found k.elements.defined in
    let step = reads_one b (Started r) (tested b (Started r) (record {
      counts = refl;
      starts = ap (λ o. is_some o && is_in_drain b.brackets) f.found ∙ ap is_in_drain s.brackets;
      calls = refl;
      order = ap (λ o. leads o b.waiting) f.found ∙ f.first;
      throws = refl;
      together = ap (λ o. goes_on o None) k.dropping;
      closes = refl;
      nested = refl;
      paid = refl;
      upgrades = refl;
      quiet = ap (λ o. not (is_callback_of b.thrown o)) f.found ∙ ap not (silent (what_of x) fitting (is_one_of n b.thrown) refl);
      rest = refl;
      last = ap not k.over;
    })) in
    let c : Book = record b { waiting = without r b.waiting; brackets = Reacting w false ∷ b.brackets; dropping = None } in (
      w,
      refl,
      refl,
      refl,
      fitting,
      known,
      record {
        book = c;
        reads = reads_append blank l (Started r ∷ []) b c k.reads
            (subst (λ o. Reads b (Started r ∷ []) (record (started o b) { dropping = None })) f.found step);
        over = k.over;
        dropping = refl;
        queues = record {
          numbers = s.numbers;
          queues = s.queues;
          rising = rising_without 0 r b.waiting s.rising;
          below = each_without (λ w. w.number ≤ b.numbers) r b.waiting s.below;
          waits = each_number (λ m. told_at m (without r b.waiting) ≡ map told (waiting_at (with_waiting n ws p.queues) m)) n
              (f.here ∙ sym (ap (map told) (waits_same n ws p.queues)))
              (λ m o. f.others m o ∙ s.waits m ∙ sym (ap (map told) (waits_other n m ws p.queues known.low o)));
          brackets = ap (λ bs. Reacting w false ∷ bs) s.brackets;
          opens = s.opens;
          falls = s.falls;
          placed = each_without (IsPlaced p.queues.stack p.queues.backup g) r b.waiting s.placed;
          owed = s.owed;
        };
        elements = let e = k.elements in record {
          known = each_without (λ w. Known p.elements w.element) r b.waiting e.known;
          defined = each_without (λ w. fits w.what (definition_of p w.element) ≡ true) r b.waiting e.defined;
          unset = e.unset;
          upgraded = e.upgraded;
          thrown = e.thrown;
          document = e.document;
          ongoing = (known, e.ongoing);
        };
      },
    )
  where
    silent : (what : CallOrUpgrade) → fits what (definition_of p n) ≡ true → (t : Bool) → is_one_of n k.book.thrown ≡ t → is_callback what && t ≡ false
    silent IsUpgrade fit t m = refl
    silent (Call name) fit false m = refl
    silent (Call name) fit true m =
        absurd (let d = (k.elements.thrown n m).1 in let x : false ≡ true = sym (ap (λ o. fits (Call name) (option_and_then (slice_get p.definitions) o)) d)
        ∙ fit in cc)

-- a reaction has ended: an upgrade, or a callback whose line has come
pub finished_holds : (w : Entry) (called : Bool) (h : List Hold) (l : List Event) (p : Page) → called || not (is_callback w.what) ≡ true →
    Holds (InReaction w called ∷ h) l p → Holds h (l ++ Finished w.number ∷ []) p
finished_holds w called h l p whole k =
    let b = k.book in
    record {
      book = record b { brackets = brackets_of h; dropping = None };
      reads = reads_append blank l (Finished w.number ∷ []) b _ k.reads
          (subst (λ bs. Reads b (Finished w.number ∷ []) (record b { brackets = bs; dropping = None })) (ap outer_of k.queues.brackets)
          (reads_one b (Finished w.number) (tested b (Finished w.number) (record {
            counts = refl;
            starts = refl;
            calls = ap has_called k.queues.brackets ∙ whole;
            order = refl;
            throws = refl;
            together = ap (λ o. goes_on o None) k.dropping;
            closes = refl;
            nested = ap (ends_reaction w.number) k.queues.brackets ∙ eq-eqb w.number w.number refl;
            paid = refl;
            upgrades = refl;
            quiet = refl;
            rest = refl;
            last = ap not k.over;
          }))));
      over = k.over;
      dropping = refl;
      queues = let q = k.queues in record {
        numbers = q.numbers;
        queues = q.queues;
        rising = q.rising;
        below = q.below;
        waits = q.waits;
        brackets = refl;
        opens = q.opens;
        falls = q.falls;
        placed = q.placed;
        owed = q.owed;
      };
      elements = let e = k.elements in
          record {
            known = e.known;
            defined = e.defined;
            unset = e.unset;
            upgraded = e.upgraded;
            thrown = e.thrown;
            document = e.document;
            ongoing = e.ongoing.1;
          };
    }
