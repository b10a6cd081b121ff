-- A reaction is enqueued.
use Rattle.std.proofs.Common.{◌≡◌, ℕ, suc, ◌+◌, ◌<◌, ◌≤◌, Bool, true, false, List, [], ◌∷◌, ◌++◌, map, None, refl, sym, ap, ◌∙◌, subst, arith, ⊎_elim, inl, inr}
use Rattle.std.proofs.Common.{append-nil}
use Rattle.std.specs.Option.{option_and_then}
use Rattle.std.specs.Prelude.{slice_get, ◌==◌, ◌||◌, ◌&&◌, not}
use Rattle.std.proofs.lemmas.Bool.{eqb-true, eq-eqb, or_left}
use Rattle.std.proofs.lemmas.List.{map-append}
use Rattle.std.specs.List.{AllByRecursion as Each}
use Rattle.rule_tokens.specs.declared.callback.CallOrUpgrade.{CallOrUpgrade}
use Rattle.rule_tokens.specs.declared.callback.CallOrUpgrade.TheVariants.{Call, Upgrade as IsUpgrade}
use Rattle.reaction_queue.specs.declared.reaction.Reaction.{Reaction}
use Rattle.reaction_queue.specs.Queues.{Queues, Open, waiting_at, enqueued, counted, with_reaction, appended_to, number_of, current_number as current_of}
use Rattle.reaction_queue.specs.Reactions.{what_of}
use Rattle.ce_events.specs.declared.event.Event.{Event}
use Rattle.ce_events.specs.declared.event.Event.TheVariants.{Enqueued}
use Rattle.ce_algorithms.specs.Page.{Page, definition_of, with_queues}
use Rattle.order_law.specs.Book.{Entry, Book, blank}
use Rattle.order_law.specs.Reads.{current, is_one_of, is_callback}
use Rattle.order_law.specs.Clauses.{goes_on}
use Rattle.order_law.proofs.Model.Reading.{Reads, tested, reads_append, reads_one, told_at, each_among, add_if}
use Rattle.order_law.proofs.Model.Invariant.{Hold, InSteps, InDrain, InReaction, InUpgrade, InHand, brackets_of, fillings_of, Falling, IsPlaced}
use Rattle.order_law.proofs.Model.Invariant.{is_checkpoint, told, SaysQueues, Known, fits, SaysElements, Holds}
use Rattle.order_law.proofs.Model.Rows.{waits_same, waits_other}
use Rattle.ce_base.proofs.Places.{each_number}
use Rattle.order_law.proofs.Entries.{Rising, rising_append, IsIn}
use Rattle.ce_algorithms.specs.Create.{has_any}
use Rattle.order_law.proofs.Model.Each.{each_map, each_append}

-- an enqueue

current_of_holds : (h : List Hold) (os : List Open) → map (λ (o : Open). o.number) os ≡ fillings_of h → current (brackets_of h) ≡ number_of os
current_of_holds [] [] e = refl
current_of_holds [] (o ∷ os) e = absurd (let x : ◌≡◌ {A = List ℕ} (o.number ∷ map (λ (o : Open). o.number) os) [] = e in cc)
current_of_holds (InSteps q ∷ h) [] e = absurd (let x : ◌≡◌ {A = List ℕ} [] (q ∷ fillings_of h) = e in cc)
current_of_holds (InSteps q ∷ h) (o ∷ os) e = let x : ◌≡◌ {A = List ℕ} (o.number ∷ map (λ (o : Open). o.number) os) (q ∷ fillings_of h) =
    e in let y : o.number ≡ q = cc in sym y
current_of_holds (InDrain q ns ∷ h) os e = current_of_holds h os e
current_of_holds (InReaction w called ∷ h) os e = current_of_holds h os e
current_of_holds (InUpgrade n ∷ h) os e = current_of_holds h os e
current_of_holds (InHand n ∷ h) os e = current_of_holds h os e

-- a queue on the stack is not the backup queue
filling_high : (q l : ℕ) (ns : List ℕ) (h : List Hold) → Falling l h → q ∷ ns ≡ fillings_of h → 0 < q
filling_high q l ns [] f e = absurd (let x : ◌≡◌ {A = List ℕ} (q ∷ ns) [] = e in cc)
filling_high q l ns (InSteps m ∷ h) f e = let x : ◌≡◌ {A = List ℕ} (q ∷ ns) (m ∷ fillings_of h) = e in let y : q ≡ m = cc in omega (arith, y, f.2)
filling_high q l ns (InDrain m ms ∷ h) f e = filling_high q m ns h f.1 e
filling_high q l ns (InReaction w called ∷ h) f e = filling_high q l ns h f e
filling_high q l ns (InUpgrade m ∷ h) f e = filling_high q l ns h f e
filling_high q l ns (InHand m ∷ h) f e = filling_high q l ns h f e

told_append : (n : ℕ) (ws vs : List Entry) → told_at n (ws ++ vs) ≡ told_at n ws ++ told_at n vs
told_append n [] vs = refl
told_append n (w ∷ ws) vs = go (w.element == n) (told_append n ws vs)
  where
    go : (b : Bool) → told_at n (ws ++ vs) ≡ told_at n ws ++ told_at n vs →
        add_if b (w.number, w.what) (told_at n (ws ++ vs)) ≡ add_if b (w.number, w.what) (told_at n ws) ++ told_at n vs
    go true h = ap (λ l. (w.number, w.what) ∷ l) h
    go false h = h

is_in_more : (x n : ℕ) (xs : List ℕ) → IsIn x xs → IsIn x (xs ++ n ∷ [])
is_in_more x n [] i = absurd i
is_in_more x n (y ∷ xs) (inl i) = inl i
is_in_more x n (y ∷ xs) (inr i) = inr (is_in_more x n xs i)

is_in_last : (n : ℕ) (xs : List ℕ) → IsIn n (xs ++ n ∷ [])
is_in_last n [] = inl refl
is_in_last n (y ∷ xs) = inr (is_in_last n xs)

any_last : (n : ℕ) (xs : List ℕ) → has_any (xs ++ n ∷ []) ≡ true
any_last n [] = refl
any_last n (x ∷ xs) = refl

zero_not : (q : ℕ) → 0 < q → q == 0 ≡ false
zero_not q lt = go (q == 0) refl
  where
    go : (b : Bool) → q == 0 ≡ b → b ≡ false
    go true t = let e = eqb-true q 0 t in absurd (omega (arith, e, lt))
    go false t = refl

pub enqueued_holds : (n : ℕ) (x : Reaction) (h : List Hold) (l : List Event) (p : Page) → Known p.elements n →
    fits (what_of x) (definition_of p n) ≡ true → Holds h l p
    → Holds h (l ++ Enqueued (p.queues.reactions + 1) n (what_of x) (current_of p.queues) ∷ []) (with_queues (enqueued n x) p)
enqueued_holds n x h l p known fitting k = go p.queues.stack refl
  where
    b : Book
    b = k.book

    s : SaysQueues b h p.queues
    s = k.queues

    r : ℕ
    r = p.queues.reactions + 1

    entry : ℕ → Entry
    entry q = record { number = r; element = n; what = what_of x; queue = q }

    next : ℕ → Book
    next q = record b { numbers = r; waiting = b.waiting ++ entry q ∷ []; owed = b.owed || (q == 0); dropping = None }

    loud : (what : CallOrUpgrade) → fits what (definition_of p n) ≡ true → (t : Bool) → is_one_of n b.thrown ≡ t → is_callback what && t ≡ false
    loud IsUpgrade fit t m = refl
    loud (Call name) fit false m = refl
    loud (Call name) fit true m = absurd
        (let d = (k.elements.thrown n m).1 in let y : false ≡ true = sym (ap (λ o. fits (Call name) (option_and_then (slice_get p.definitions) o)) d)
        ∙ fit in cc)

    reads : (os : List Open) → p.queues.stack ≡ os → Reads blank (l ++ Enqueued r n (what_of x) (number_of os) ∷ []) (next (number_of os))
    reads os e =
        let same : number_of os ≡ current b.brackets =
        ap number_of (sym e) ∙ sym (current_of_holds h p.queues.stack s.opens) ∙ ap current (sym s.brackets) in
        reads_append blank l (Enqueued r n (what_of x) (number_of os) ∷ []) b (next (number_of os)) k.reads
        (reads_one b (Enqueued r n (what_of x) (number_of os)) (tested b (Enqueued r n (what_of x) (number_of os)) (record {
          counts = ap (λ t. t && (number_of os == current b.brackets)) (eq-eqb r (b.numbers + 1) (ap (λ m. m + 1) (sym s.numbers)))
              ∙ eq-eqb (number_of os) (current b.brackets) same;
          starts = refl;
          calls = refl;
          order = refl;
          throws = refl;
          together = ap (λ o. goes_on o None) k.dropping;
          closes = refl;
          nested = refl;
          paid = refl;
          upgrades = refl;
          quiet = ap not (loud (what_of x) fitting (is_one_of n b.thrown) refl);
          rest = refl;
          last = ap not k.over;
        })))

    elements : (q : ℕ) → SaysElements (next q) h p
    elements q = let e = k.elements in record {
      known = each_append (λ w. Known p.elements w.element) b.waiting (entry q ∷ []) e.known (known, tt);
      defined = each_append (λ w. fits w.what (definition_of p w.element) ≡ true) b.waiting (entry q ∷ []) e.defined (fitting, tt);
      unset = e.unset;
      upgraded = e.upgraded;
      thrown = e.thrown;
      document = e.document;
      ongoing = e.ongoing;
    }

    more : ℕ → Queues
    more q = with_reaction n x (counted p.queues)

    waits : (q : ℕ) (m : ℕ) → told_at m (b.waiting ++ entry q ∷ []) ≡ map told (waiting_at (with_reaction n x (counted p.queues)) m)
    waits q = each_number (λ m. told_at m (b.waiting ++ entry q ∷ []) ≡ map told (waiting_at (with_reaction n x (counted p.queues)) m)) n
        (told_append n b.waiting (entry q ∷ []) ∙ ap (λ t. told_at n b.waiting ++ add_if t (r, what_of x) []) (eq-eqb n n refl)
        ∙ ap (λ l. l ++ (r, what_of x) ∷ []) (s.waits n)
        ∙ sym (map-append told (waiting_at p.queues n) ((r, x) ∷ []))
        ∙ sym (ap (map told) (waits_same n (waiting_at (counted p.queues) n ++ (r, x) ∷ []) (counted p.queues))))
        (λ m o. told_append m b.waiting (entry q ∷ []) ∙ ap (λ t. told_at m b.waiting ++ add_if t (r, what_of x) []) o ∙ append-nil (told_at m b.waiting)
        ∙ s.waits m
        ∙ sym (ap (map told) (waits_other n m (waiting_at (counted p.queues) n ++ (r, x) ∷ []) (counted p.queues) known.low o)))

    rising : (q : ℕ) → Rising 0 (b.waiting ++ entry q ∷ [])
    rising q = rising_append 0 b.numbers b.waiting (entry q) s.rising (each_among (λ w. w.number ≤ b.numbers) b.waiting s.below) (omega arith)
        (let e = s.numbers in omega (arith, e))

    below : (q : ℕ) → Each (λ w. w.number ≤ r) (b.waiting ++ entry q ∷ [])
    below q = each_append (λ w. w.number ≤ r) b.waiting (entry q ∷ [])
        (each_map (λ w. w.number ≤ b.numbers) (λ w. w.number ≤ r) b.waiting (λ w le. let e = s.numbers in omega (arith, le, e)) s.below) (omega arith, tt)

    go : (os : List Open) → p.queues.stack ≡ os →
        Holds h (l ++ Enqueued r n (what_of x) (number_of os) ∷ []) (with_queues (λ q. appended_to os n (with_reaction n x (counted q))) p)
    go [] e = record {
      book = next 0;
      reads = reads [] e;
      over = k.over;
      dropping = refl;
      elements = let t = elements 0 in
          record {
            known = t.known;
            defined = t.defined;
            unset = t.unset;
            upgraded = t.upgraded;
            thrown = t.thrown;
            document = t.document;
            ongoing = t.ongoing;
          };
      queues = record {
        numbers = refl;
        queues = s.queues;
        rising = rising 0;
        below = below 0;
        waits = waits 0;
        brackets = s.brackets;
        opens = s.opens;
        falls = s.falls;
        placed = each_append (IsPlaced p.queues.stack (p.queues.backup ++ n ∷ []) h) b.waiting (entry 0 ∷ [])
            (each_map (IsPlaced p.queues.stack p.queues.backup h) (IsPlaced p.queues.stack (p.queues.backup ++ n ∷ []) h) b.waiting (λ w i. later w i) s.placed)
            (inr (inr (refl, is_in_last n p.queues.backup)), tt);
        owed = inr (or_left (has_any (p.queues.backup ++ n ∷ [])) (is_checkpoint h) (any_last n p.queues.backup));
      };
    }
      where
        later : (w : Entry) → IsPlaced p.queues.stack p.queues.backup h w → IsPlaced p.queues.stack (p.queues.backup ++ n ∷ []) h w
        later w (inl i) = inl i
        later w (inr (inl i)) = inr (inl i)
        later w (inr (inr i)) = inr (inr (i.0, is_in_more w.element n p.queues.backup i.1))
    go (o ∷ os) e = record {
      book = next o.number;
      reads = reads (o ∷ os) e;
      over = k.over;
      dropping = refl;
      elements = let t = elements o.number in
          record {
            known = t.known;
            defined = t.defined;
            unset = t.unset;
            upgraded = t.upgraded;
            thrown = t.thrown;
            document = t.document;
            ongoing = t.ongoing;
          };
      queues = record {
        numbers = refl;
        queues = s.queues;
        rising = rising o.number;
        below = below o.number;
        waits = waits o.number;
        brackets = s.brackets;
        opens = ap (map (λ (o : Open). o.number)) (sym e) ∙ s.opens;
        falls = s.falls;
        placed = each_append (IsPlaced (fuller ∷ os) p.queues.backup h) b.waiting (entry o.number ∷ [])
            (each_map (IsPlaced p.queues.stack p.queues.backup h) (IsPlaced (fuller ∷ os) p.queues.backup h) b.waiting
            (λ w i. later w (subst (λ t. IsPlaced t p.queues.backup h w) e i)) s.placed)
            (inl (inl (refl, is_in_last n o.elements)), tt);
        owed = ⊎_elim (λ f. inl (ap (λ t. t || (o.number == 0)) f
            ∙ zero_not o.number (filling_high o.number (suc p.queues.pushed) (map (λ (o : Open). o.number) os) h s.falls
            (ap (map (λ (o : Open). o.number)) (sym e) ∙ s.opens)))) (λ t. inr t) s.owed;
      };
    }
      where
        fuller : Open
        fuller = record o { elements = o.elements ++ n ∷ [] }

        later : (w : Entry) → IsPlaced (o ∷ os) p.queues.backup h w → IsPlaced (fuller ∷ os) p.queues.backup h w
        later w (inl (inl i)) = inl (inl (i.0, is_in_more w.element n o.elements i.1))
        later w (inl (inr i)) = inl (inr i)
        later w (inr i) = inr i
