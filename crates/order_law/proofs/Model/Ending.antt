-- A queue is closed; the checkpoint; elements without reactions; the fuel; what holds at rest.
use Rattle.std.proofs.Common.{◌≡◌, ◌≢◌, ℕ, suc, ◌<◌, ◌≤◌, Bool, true, false, List, [], ◌∷◌, ◌++◌, map, None, refl, sym, ap, ◌∙◌, subst, arith, ⊎_elim, inl, inr}
use Rattle.std.specs.Prelude.{◌==◌, ◌||◌, ◌&&◌, not}
use Rattle.std.proofs.lemmas.Bool.{eqb-false, eq-eqb, ne_eqb, or_right, and_right}
use Rattle.std.specs.List.{AllByRecursion as Each}
use Rattle.rule_tokens.specs.declared.callback.CallOrUpgrade.{CallOrUpgrade}
use Rattle.reaction_queue.specs.Queues.{Open, waiting_at}
use Rattle.ce_events.specs.declared.event.Event.{Event}
use Rattle.ce_events.specs.declared.event.Event.TheVariants.{DrainBegun, QueueClosed, FuelLine}
use Rattle.ce_algorithms.specs.Page.{Page, with_queues}
use Rattle.ce_algorithms.specs.Drain.{with_backup}
use Rattle.order_law.specs.Book.{Entry, Draining, blank}
use Rattle.order_law.specs.Reads.{none_of_queue}
use Rattle.order_law.specs.Clauses.{begins_drain, ends_drain, goes_on}
use Rattle.order_law.specs.After.{after}
use Rattle.order_law.specs.Law.{Lawful}
use Rattle.order_law.specs.Reads.{around as outer_of}
use Rattle.order_law.proofs.Model.Reading.{Reads, tested, reads_append, reads_one, told_at, add_if}
use Rattle.order_law.proofs.Model.Invariant.{Hold, InSteps, InDrain, InReaction, InUpgrade, InHand, brackets_of, fillings_of, Falling, IsOpen, IsLeft}
use Rattle.order_law.proofs.Model.Invariant.{IsPlaced, is_checkpoint, told, SaysQueues, Holds}
use Rattle.order_law.proofs.Model.Reactions.{falling_le}
use Rattle.order_law.proofs.Entries.{IsIn}
use Rattle.ce_algorithms.specs.Create.{has_any}
use Rattle.order_law.proofs.Model.Each.{each_map}

-- the close

abbrev AllLess : ℕ → List ℕ → Type 0
AllLess l [] = Unit {0}
AllLess l (x ∷ xs) = (x < l) × AllLess l xs

less_more : (l m : ℕ) (xs : List ℕ) → l ≤ m → AllLess l xs → AllLess m xs
less_more l m [] le a = tt
less_more l m (x ∷ xs) le a = (omega (arith, le, a.0), less_more l m xs le a.1)

fillings_less : (l : ℕ) (h : List Hold) → Falling l h → AllLess l (fillings_of h)
fillings_less l [] f = tt
fillings_less l (InSteps q ∷ h) f = (f.0, less_more q l (fillings_of h) (omega (arith, f.0)) (fillings_less q h f.1))
fillings_less l (InDrain q ns ∷ h) f = less_more q l (fillings_of h) (omega (arith, f.0)) (fillings_less q h f.1)
fillings_less l (InReaction w called ∷ h) f = fillings_less l h f
fillings_less l (InUpgrade n ∷ h) f = fillings_less l h f
fillings_less l (InHand n ∷ h) f = fillings_less l h f

open_less : (w : Entry) (l : ℕ) (os : List Open) → AllLess l (map (λ (o : Open). o.number) os) → IsOpen os w → w.queue < l
open_less w l [] a i = absurd i
open_less w l (o ∷ os) a (inl i) = omega (arith, a.0, i.0)
open_less w l (o ∷ os) a (inr i) = open_less w l os a.1 i

left_less : (w : Entry) (l : ℕ) (h : List Hold) → Falling l h → IsLeft h w → w.queue < l
left_less w l [] f i = absurd i
left_less w l (InSteps q ∷ h) f i = let r = left_less w q h f.1 i in omega (arith, f.0, r)
left_less w l (InDrain q ns ∷ h) f (inl i) = omega (arith, f.0, i.0)
left_less w l (InDrain q ns ∷ h) f (inr i) = let r = left_less w q h f.1 i in omega (arith, f.0, r)
left_less w l (InReaction v called ∷ h) f i = left_less w l h f i
left_less w l (InUpgrade n ∷ h) f i = left_less w l h f i
left_less w l (InHand n ∷ h) f i = left_less w l h f i

all_out : (q : ℕ) (ws : List Entry) → Each (λ w. w.queue ≢ q) ws → none_of_queue q ws ≡ true
all_out q [] e = refl
all_out q (w ∷ ws) e = ap (λ b. not b && none_of_queue q ws) (ne_eqb w.queue q e.0) ∙ all_out q ws e.1

-- the event of a close, where nothing of the queue waits
closing : (m : ℕ) (h : List Hold) (l : List Event) (p : Page) (k : Holds (InDrain m [] ∷ h) l p) → Each (λ w. w.queue ≢ m) k.book.waiting →
    Reads blank (l ++ QueueClosed m ∷ []) (record (k.book) { brackets = brackets_of h; owed = k.book.owed && not (m == 0); dropping = None })
closing m h l p k out =
    let b = k.book in
    reads_append blank l (QueueClosed m ∷ []) b _ k.reads
    (subst (λ bs. Reads b (QueueClosed m ∷ []) (record b { brackets = bs; owed = b.owed && not (m == 0); dropping = None }))
    (ap outer_of k.queues.brackets) (reads_one b (QueueClosed m) (tested b (QueueClosed m) (record {
      counts = refl;
      starts = refl;
      calls = refl;
      order = refl;
      throws = refl;
      together = ap (λ o. goes_on o None) k.dropping;
      closes = all_out m b.waiting out;
      nested = ap (ends_drain m) k.queues.brackets ∙ eq-eqb m m refl;
      paid = refl;
      upgrades = refl;
      quiet = refl;
      rest = refl;
      last = ap not k.over;
    }))))

-- an operation's queue
pub closed_holds : (m : ℕ) (h : List Hold) (l : List Event) (p : Page) → 0 < m → Holds (InDrain m [] ∷ h) l p → Holds h (l ++ QueueClosed m ∷ []) p
closed_holds m h l p high k = record {
  book = record (k.book) { brackets = brackets_of h; owed = k.book.owed && not (m == 0); dropping = None };
  reads = closing m h l p k (each_map (IsPlaced p.queues.stack p.queues.backup (InDrain m [] ∷ h)) (λ w. w.queue ≢ m) k.book.waiting (λ w i. out w i) s.placed);
  over = k.over;
  dropping = refl;
  queues = record {
    numbers = s.numbers;
    queues = s.queues;
    rising = s.rising;
    below = s.below;
    waits = s.waits;
    brackets = refl;
    opens = s.opens;
    falls = falling_le m (suc p.queues.pushed) h (let lt : m ≤ suc p.queues.pushed = omega (arith, s.falls.0) in lt) s.falls.1;
    placed = each_map (IsPlaced p.queues.stack p.queues.backup (InDrain m [] ∷ h)) (IsPlaced p.queues.stack p.queues.backup h) k.book.waiting
        (λ w i. other w i) s.placed;
    owed = ⊎_elim (λ f. inl (ap (λ t. t && not (m == 0)) f))
        (λ t. inr (sym (ap (λ z. has_any p.queues.backup || (z || is_checkpoint h)) (not_zero)) ∙ t)) s.owed;
  };
  elements = let e = k.elements in
      record { known = e.known; defined = e.defined; unset = e.unset; upgraded = e.upgraded; thrown = e.thrown; document = e.document; ongoing = e.ongoing };
}
  where
    s : SaysQueues k.book (InDrain m [] ∷ h) p.queues
    s = k.queues

    not_zero : m == 0 ≡ false
    not_zero = ne_eqb m 0 (λ e. omega (arith, e, high))

    out : (w : Entry) → IsPlaced p.queues.stack p.queues.backup (InDrain m [] ∷ h) w → w.queue ≢ m
    out w (inl i) e = let lt = open_less w m p.queues.stack (subst (AllLess m) (sym s.opens) (fillings_less m h s.falls.1)) i in omega (arith, e, lt)
    out w (inr (inl (inl i))) e = absurd i.1
    out w (inr (inl (inr i))) e = let lt = left_less w m h s.falls.1 i in omega (arith, e, lt)
    out w (inr (inr i)) e = omega (arith, e, i.0, high)

    other : (w : Entry) → IsPlaced p.queues.stack p.queues.backup (InDrain m [] ∷ h) w → IsPlaced p.queues.stack p.queues.backup h w
    other w (inl i) = inl i
    other w (inr (inl (inl i))) = absurd i.1
    other w (inr (inl (inr i))) = inr (inl i)
    other w (inr (inr i)) = inr (inr i)

-- the checkpoint

no_open : (w : Entry) (os : List Open) → map (λ (o : Open). o.number) os ≡ [] → IsOpen os w → ⊥
no_open w [] e i = i
no_open w (o ∷ os) e i = let x : ◌≡◌ {A = List ℕ} (o.number ∷ map (λ (o : Open). o.number) os) [] = e in absurd (let y : ⊥ = cc in y)

pub checkpoint_holds : (l : List Event) (p : Page) → Holds [] l p → Holds (InDrain 0 [] ∷ []) (l ++ DrainBegun 0 ∷ []) p
checkpoint_holds l p k =
    let b = k.book in
    let s = k.queues in
    record {
      book = record b { brackets = Draining 0 ∷ []; dropping = None };
      reads = reads_append blank l (DrainBegun 0 ∷ []) b _ k.reads
          (subst (λ bs. Reads b (DrainBegun 0 ∷ []) (record b { brackets = Draining 0 ∷ bs; dropping = None })) (ap outer_of s.brackets)
          (reads_one b (DrainBegun 0) (tested b (DrainBegun 0) (record {
            counts = refl;
            starts = refl;
            calls = refl;
            order = refl;
            throws = refl;
            together = ap (λ o. goes_on o None) k.dropping;
            closes = refl;
            nested = ap (begins_drain 0) s.brackets;
            paid = refl;
            upgrades = refl;
            quiet = refl;
            rest = refl;
            last = ap not k.over;
          }))));
      over = k.over;
      dropping = refl;
      queues = record {
        numbers = s.numbers;
        queues = s.queues;
        rising = s.rising;
        below = s.below;
        waits = s.waits;
        brackets = refl;
        opens = s.opens;
        falls = (omega arith, tt);
        placed = each_map (IsPlaced p.queues.stack p.queues.backup []) (IsPlaced p.queues.stack p.queues.backup (InDrain 0 [] ∷ [])) b.waiting
            (λ w i. ⊎_elim (λ x. inl x) (λ x. inr (⊎_elim (λ y. absurd y) (λ y. inr y) x)) i) s.placed;
        owed = inr (or_right (has_any p.queues.backup) true refl);
      };
      elements = let e = k.elements in
          record {
            known = e.known;
            defined = e.defined;
            unset = e.unset;
            upgraded = e.upgraded;
            thrown = e.thrown;
            document = e.document;
            ongoing = e.ongoing;
          };
    }

-- the first element of the backup element queue is taken
pub taken_holds : (n : ℕ) (ns : List ℕ) (l : List Event) (p : Page) → p.queues.backup ≡ n ∷ ns → Holds (InDrain 0 [] ∷ []) l p →
    Holds (InDrain 0 (n ∷ []) ∷ []) l (with_queues (with_backup ns) p)
taken_holds n ns l p is k =
    let s = k.queues in
    record {
      book = k.book;
      reads = k.reads;
      over = k.over;
      dropping = k.dropping;
      queues = record {
        numbers = s.numbers;
        queues = s.queues;
        rising = s.rising;
        below = s.below;
        waits = s.waits;
        brackets = s.brackets;
        opens = s.opens;
        falls = s.falls;
        placed = each_map (IsPlaced p.queues.stack p.queues.backup (InDrain 0 [] ∷ [])) (IsPlaced p.queues.stack ns (InDrain 0 (n ∷ []) ∷ [])) k.book.waiting
            (λ w i. one w (subst (λ t. IsPlaced p.queues.stack t (InDrain 0 [] ∷ []) w) is i)) s.placed;
        owed = inr (or_right (has_any ns) true refl);
      };
      elements = let e = k.elements in
          record {
            known = e.known;
            defined = e.defined;
            unset = e.unset;
            upgraded = e.upgraded;
            thrown = e.thrown;
            document = e.document;
            ongoing = e.ongoing;
          };
    }
  where
    one : (w : Entry) → IsPlaced p.queues.stack (n ∷ ns) (InDrain 0 [] ∷ []) w → IsPlaced p.queues.stack ns (InDrain 0 (n ∷ []) ∷ []) w
    one w (inl i) = inl i
    one w (inr (inl (inl i))) = absurd i.1
    one w (inr (inl (inr i))) = absurd i
    one w (inr (inr i)) = ⊎_elim (λ x. inr (inl (inl (sym i.0, inl x)))) (λ x. inr (inr (i.0, x))) i.1

-- it is empty
pub checkpoint_closed : (l : List Event) (p : Page) → p.queues.backup ≡ [] → Holds (InDrain 0 [] ∷ []) l p → Holds [] (l ++ QueueClosed 0 ∷ []) p
checkpoint_closed l p is k = record {
  book = record (k.book) { brackets = []; owed = k.book.owed && false; dropping = None };
  reads = closing 0 [] l p k (each_map (IsPlaced p.queues.stack p.queues.backup (InDrain 0 [] ∷ [])) (λ w. w.queue ≢ 0) k.book.waiting
      (λ w i e. nowhere w (subst (λ t. IsPlaced p.queues.stack t (InDrain 0 [] ∷ []) w) is i)) s.placed);
  over = k.over;
  dropping = refl;
  queues = record {
    numbers = s.numbers;
    queues = s.queues;
    rising = s.rising;
    below = s.below;
    waits = s.waits;
    brackets = refl;
    opens = s.opens;
    falls = tt;
    placed = each_map (IsPlaced p.queues.stack p.queues.backup (InDrain 0 [] ∷ [])) (IsPlaced p.queues.stack p.queues.backup []) k.book.waiting
        (λ w i. absurd (nowhere w (subst (λ t. IsPlaced p.queues.stack t (InDrain 0 [] ∷ []) w) is i))) s.placed;
    owed = inl (and_right k.book.owed false refl);
  };
  elements = let e = k.elements in
      record { known = e.known; defined = e.defined; unset = e.unset; upgraded = e.upgraded; thrown = e.thrown; document = e.document; ongoing = e.ongoing };
}
  where
    s : SaysQueues k.book (InDrain 0 [] ∷ []) p.queues
    s = k.queues

    nowhere : (w : Entry) → IsPlaced p.queues.stack [] (InDrain 0 [] ∷ []) w → ⊥
    nowhere w (inl i) = no_open w p.queues.stack s.opens i
    nowhere w (inr (inl (inl i))) = i.1
    nowhere w (inr (inl (inr i))) = i
    nowhere w (inr (inr i)) = i.1

-- nothing waits at the first element of a drain
pub skipped_holds : (q n : ℕ) (ns : List ℕ) (h : List Hold) (l : List Event) (p : Page) → waiting_at p.queues n ≡ [] →
    Holds (InDrain q (n ∷ ns) ∷ h) l p → Holds (InDrain q ns ∷ h) l p
skipped_holds q n ns h l p is k =
    let s = k.queues in
    record {
      book = k.book;
      reads = k.reads;
      over = k.over;
      dropping = k.dropping;
      queues = record {
        numbers = s.numbers;
        queues = s.queues;
        rising = s.rising;
        below = s.below;
        waits = s.waits;
        brackets = s.brackets;
        opens = s.opens;
        falls = s.falls;
        owed = s.owed;
        placed = go k.book.waiting (s.waits n ∙ ap (map told) is) s.placed;
      };
      elements = let e = k.elements in
          record {
            known = e.known;
            defined = e.defined;
            unset = e.unset;
            upgraded = e.upgraded;
            thrown = e.thrown;
            document = e.document;
            ongoing = e.ongoing;
          };
    }
  where
    one : (w : Entry) → (n ≡ w.element → ⊥) → IsPlaced p.queues.stack p.queues.backup (InDrain q (n ∷ ns) ∷ h) w →
        IsPlaced p.queues.stack p.queues.backup (InDrain q ns ∷ h) w
    one w not_here (inl i) = inl i
    one w not_here (inr (inl (inl i))) = inr (inl (inl (i.0, ⊎_elim (λ same. absurd (not_here same)) (λ left. left) i.1)))
    one w not_here (inr (inl (inr i))) = inr (inl (inr i))
    one w not_here (inr (inr i)) = inr (inr i)

    go : (ws : List Entry) → told_at n ws ≡ [] → Each (IsPlaced p.queues.stack p.queues.backup (InDrain q (n ∷ ns) ∷ h)) ws →
        Each (IsPlaced p.queues.stack p.queues.backup (InDrain q ns ∷ h)) ws
    go [] z e = tt
    go (w ∷ ws) z e = at (w.element == n) refl z (λ y. go ws y e.1)
      where
        at : (b : Bool) → w.element == n ≡ b → add_if b (w.number, w.what) (told_at n ws) ≡ [] →
            (told_at n ws ≡ [] → Each (IsPlaced p.queues.stack p.queues.backup (InDrain q ns ∷ h)) ws) →
            Each (IsPlaced p.queues.stack p.queues.backup (InDrain q ns ∷ h)) (w ∷ ws)
        at true t z next = absurd (let x : ◌≡◌ {A = List (ℕ × CallOrUpgrade)} ((w.number, w.what) ∷ told_at n ws) [] = z in cc)
        at false t z next = (one w (λ same. eqb-false w.element n t (sym same)) e.0, next z)

-- the fuel is spent
pub spent_lawful : (h : List Hold) (l : List Event) (p : Page) → Holds h l p → Lawful (l ++ FuelLine ∷ [])
spent_lawful h l p k =
    let b = k.book in
    (reads_append blank l (FuelLine ∷ []) b (after b FuelLine) k.reads (reads_one b FuelLine (tested b FuelLine (record {
      counts = refl;
      starts = refl;
      calls = refl;
      order = refl;
      throws = refl;
      together = ap (λ o. goes_on o None) k.dropping;
      closes = refl;
      nested = refl;
      paid = refl;
      upgrades = refl;
      quiet = refl;
      rest = refl;
      last = ap not k.over;
    })))).lawful

-- nothing is suspended and the backup element queue is empty: nothing waits, and no checkpoint is owed
pub at_rest : (l : List Event) (p : Page) → p.queues.backup ≡ [] → (k : Holds [] l p) → (k.book.waiting ≡ []) × (k.book.owed ≡ false)
at_rest l p is k = (
  none k.book.waiting k.queues.placed,
  ⊎_elim (λ f. f) (λ t. absurd (let x : false ≡ true = sym (ap (λ (ns : List ℕ). has_any ns || false) is) ∙ t in cc))
      k.queues.owed,
)
  where
    nowhere : (w : Entry) → IsPlaced p.queues.stack p.queues.backup [] w → ⊥
    nowhere w (inl i) = no_open w p.queues.stack k.queues.opens i
    nowhere w (inr (inl i)) = i
    nowhere w (inr (inr i)) = subst (λ ns. IsIn w.element ns) is i.1

    none : (ws : List Entry) → Each (IsPlaced p.queues.stack p.queues.backup []) ws → ws ≡ []
    none [] e = refl
    none (w ∷ ws) e = absurd (nowhere w e.0)
