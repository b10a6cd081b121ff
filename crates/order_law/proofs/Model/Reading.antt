-- The book, event by event.
use Rattle.std.proofs.Common.{◌≡◌, ℕ, ◌<◌, Bool, true, false, List, [], ◌∷◌, ◌++◌, Option, Some, None, refl, sym, ap, ◌∙◌, subst, arith, inl, inr}
use Rattle.std.specs.Prelude.{◌==◌, ◌&&◌, not, if◌then◌else◌}
use Rattle.std.proofs.lemmas.Bool.{and_parts, eqb-true, eq-eqb}
use Rattle.rule_tokens.specs.declared.callback.CallOrUpgrade.{CallOrUpgrade}
use Rattle.ce_events.specs.declared.event.Event.{Event}
use Rattle.ce_events.specs.declared.event.Event.TheVariants.{Dropped, UpgradeThrew}
use Rattle.order_law.specs.Book.{Entry, Bracket, Upgrading, Book}
use Rattle.order_law.specs.Reads.{entry_of, without, none_of_element, is_first}
use Rattle.order_law.specs.Clauses.{counts_up, starts_once, calls_once, runs_in_order, drops_in_upgrade, closes_empty, ends_innermost, begins_upgrade}
use Rattle.order_law.specs.Clauses.{spares_thrown, replies_at_rest, fuel_is_last, goes_on, loser, leads, is_in_upgrade}
use Rattle.order_law.specs.Law.{may_come, read, is_lawful}
use Rattle.order_law.specs.After.{after}
use Rattle.order_law.specs.Lines.{is_reply}
use Rattle.std.specs.Prelude.{is_some}
use Rattle.order_law.specs.Reads.{around as outer_of}
use Rattle.std.specs.Cmp.Derive.{both_true}
use Rattle.std.specs.List.{AllByRecursion as Each}
use Rattle.order_law.proofs.Fronts.{left_true, right_true}
use Rattle.order_law.proofs.Entries.{IsAmong, Rising, rising_without}

-- a drop goes on
abbrev pub drops_together : Book → Event → Bool
drops_together b e = goes_on b.dropping (loser b e)

-- nothing is owed at a reply
abbrev pub pays : Book → Event → Bool
pays b e = not (is_reply e && b.owed)

pub record Tests (b : Book) (e : Event) : Type 0 where
  pub counts : counts_up b e ≡ true
  pub starts : starts_once b e ≡ true
  pub calls : calls_once b e ≡ true
  pub order : runs_in_order b e ≡ true
  pub throws : drops_in_upgrade b e ≡ true
  pub together : drops_together b e ≡ true
  pub closes : closes_empty b e ≡ true
  pub nested : ends_innermost b e ≡ true
  pub paid : pays b e ≡ true
  pub upgrades : begins_upgrade b e ≡ true
  pub quiet : spares_thrown b e ≡ true
  pub rest : replies_at_rest b e ≡ true
  pub last : fuel_is_last b e ≡ true

pub tested : (b : Book) (e : Event) → Tests b e → may_come b e ≡ true
tested b e t =
    both_true t.counts (both_true (both_true t.starts t.calls) (both_true t.order (both_true (both_true t.throws t.together) (both_true t.closes
    (both_true (both_true t.nested t.paid) (both_true (both_true t.upgrades t.quiet) (both_true t.rest t.last)))))))

-- of a line that leaves queues and upgrades as they are, these pass whatever the book says
abbrev pub is_line : Book → Event → Bool
is_line b e =
    counts_up b e && (starts_once b e && (runs_in_order b e && (drops_in_upgrade b e && (closes_empty b e && (ends_innermost b e
    && (begins_upgrade b e && spares_thrown b e))))))

pub line_tests : (b : Book) (e : Event) → is_line b e ≡ true → b.over ≡ false → b.dropping ≡ None → calls_once b e ≡ true → pays b e ≡ true →
    replies_at_rest b e ≡ true → Tests b e
line_tests b e line over dropping calls pays rest =
    let counts = and_parts (counts_up b e) _ line in
    let starts = and_parts (starts_once b e) _ counts.1 in
    let order = and_parts (runs_in_order b e) _ starts.1 in
    let throws = and_parts (drops_in_upgrade b e) _ order.1 in
    let closes = and_parts (closes_empty b e) _ throws.1 in
    let nested = and_parts (ends_innermost b e) _ closes.1 in
    let upgrades = and_parts (begins_upgrade b e) _ nested.1 in
    record {
      counts = counts.0;
      starts = starts.0;
      calls = calls;
      order = order.0;
      throws = throws.0;
      together = ap (λ o. goes_on o (loser b e)) dropping;
      closes = closes.0;
      nested = nested.0;
      paid = pays;
      upgrades = upgrades.0;
      quiet = upgrades.1;
      rest = rest;
      last = ap not over;
    }

-- a log is lawful, and this is its book
pub record Reads (from : Book) (log : List Event) (b : Book) : Type 0 where
  pub lawful : is_lawful from log ≡ true
  pub is : read from log ≡ b

-- more events
pub reads_append : (from : Book) (log more : List Event) (b c : Book) → Reads from log b → Reads b more c → Reads from (log ++ more) c
reads_append from [] more b c h k = subst (λ x. Reads x more c) (sym h.is) k
reads_append from (e ∷ log) more b c h k =
    let t = reads_append (after from e) log more b c (record { lawful = right_true (may_come from e) (is_lawful (after from e) log) h.lawful; is = h.is }) k in
    record { lawful = both_true (left_true (may_come from e) (is_lawful (after from e) log) h.lawful) t.lawful; is = t.is }

-- one event more
pub reads_one : (b : Book) (e : Event) → may_come b e ≡ true → Reads b (e ∷ []) (after b e)
reads_one b e h = record { lawful = both_true h refl; is = refl }

pub reads_none : (b : Book) → Reads b [] b
reads_none b = record { lawful = refl; is = refl }

-- what waits at an element

abbrev pub add_if : {A : Type 0} → Bool → A → List A → List A
add_if true x xs = x ∷ xs
add_if false x xs = xs

-- the numbers that wait at the element, and what each is for
abbrev pub told_at : ℕ → List Entry → List (ℕ × CallOrUpgrade)
told_at n [] = []
told_at n (w ∷ ws) = add_if (w.element == n) (w.number, w.what) (told_at n ws)

pub each_among : (P : Entry → Type 0) (ws : List Entry) → Each P ws → (w : Entry) → IsAmong w ws → P w
each_among P (v ∷ ws) h w (inl i) = subst P i h.0
each_among P (v ∷ ws) h w (inr i) = each_among P ws h.1 w i
each_among P [] h w i = absurd i

pub each_without : (P : Entry → Type 0) (r : ℕ) (ws : List Entry) → Each P ws → Each P (without r ws)
each_without P r [] h = tt
each_without P r (w ∷ ws) h = go (w.number == r) (each_without P r ws h.1)
  where
    go : (t : Bool) → Each P (without r ws) → Each P (if t then ws else w ∷ without r ws)
    go true k = h.1
    go false k = (h.0, k)

-- the first number that waits at an element
pub record First (n r : ℕ) (k : CallOrUpgrade) (xs : List (ℕ × CallOrUpgrade)) (low : ℕ) (ws : List Entry) : Type 0 where
  pub queue : ℕ
  pub above : low < r
  pub found : entry_of r ws ≡ Some (record { number = r; element = n; what = k; queue = queue })
  pub first : is_first r n ws ≡ true
  pub here : told_at n (without r ws) ≡ xs
  pub others : (m : ℕ) → n == m ≡ false → told_at m (without r ws) ≡ told_at m ws

pub first_of : (n r : ℕ) (k : CallOrUpgrade) (xs : List (ℕ × CallOrUpgrade)) (low : ℕ) (ws : List Entry) → Rising low ws →
    told_at n ws ≡ (r, k) ∷ xs → First n r k xs low ws
first_of n r k xs low [] rises h = absurd (let e : ◌≡◌ {A = List (ℕ × CallOrUpgrade)} [] ((r, k) ∷ xs) = h in cc)
first_of n r k xs low (w ∷ ws) rises h = go (w.element == n) refl (first_of n r k xs w.number ws rises.1) h
  where
    other : w.number < r → w.number == r ≡ false
    other lt = cases (w.number == r) refl
      where
        cases : (b : Bool) → w.number == r ≡ b → b ≡ false
        cases true t = let e = eqb-true w.number r t in absurd (omega (arith, e, lt))
        cases false t = refl

    go : (b : Bool) → w.element == n ≡ b → (told_at n ws ≡ (r, k) ∷ xs → First n r k xs w.number ws) →
        add_if b (w.number, w.what) (told_at n ws) ≡ (r, k) ∷ xs → First n r k xs low (w ∷ ws)
    go true t next h =
        let is : w.element ≡ n = eqb-true w.element n t in
        let pair : ◌≡◌ {A = ℕ × CallOrUpgrade} (w.number, w.what) (r, k) = cc in
        let number : w.number ≡ r = ap (λ (p : ℕ × CallOrUpgrade). p.0) pair in
        let what : w.what ≡ k = ap (λ (p : ℕ × CallOrUpgrade). p.1) pair in
        let hit : w.number == r ≡ true = eq-eqb w.number r number in
        let same : w ≡ record { number = r; element = n; what = k; queue = w.queue } =
        ap (λ x. record w { number = x }) number ∙ ap (λ x. record { number = r; element = x; what = w.what; queue = w.queue }) is
        ∙ ap (λ x. record { number = r; element = n; what = x; queue = w.queue }) what in
        record {
          queue = w.queue;
          above = omega (arith, rises.0, number);
          found = ap (λ b. if b then Some w else entry_of r ws) hit ∙ ap Some same;
          first = ap (λ b. if b then true else not (w.element == n) && is_first r n ws) hit;
          here = ap (λ b. told_at n (if b then ws else w ∷ without r ws)) hit ∙ (let e : told_at n ws ≡ xs = cc in e);
          others = λ m o. ap (λ b. told_at m (if b then ws else w ∷ without r ws)) hit
              ∙ sym (ap (λ b. add_if b (w.number, w.what) (told_at m ws)) (ap (λ x. x == m) is ∙ o));
        }
    go false t next h =
        let f = next h in
        let miss : w.number == r ≡ false = other f.above in
        record {
          queue = f.queue;
          above = omega (arith, rises.0, f.above);
          found = ap (λ b. if b then Some w else entry_of r ws) miss ∙ f.found;
          first = ap (λ b. if b then true else not (w.element == n) && is_first r n ws) miss ∙ ap (λ b. not b && is_first r n ws) t ∙ f.first;
          here = ap (λ b. told_at n (if b then ws else w ∷ without r ws)) miss ∙ ap (λ b. add_if b (w.number, w.what) (told_at n (without r ws))) t ∙ f.here;
          others = λ m o. ap (λ b. told_at m (if b then ws else w ∷ without r ws)) miss ∙ ap (λ l. add_if (w.element == m) (w.number, w.what) l) (f.others m o);
        }

-- nothing waits at an element
pub none_told : (n : ℕ) (ws : List Entry) → told_at n ws ≡ [] → none_of_element n ws ≡ true
none_told n [] h = refl
none_told n (w ∷ ws) h = go (w.element == n) h (none_told n ws)
  where
    go : (b : Bool) → add_if b (w.number, w.what) (told_at n ws) ≡ [] → (told_at n ws ≡ [] → none_of_element n ws ≡ true) → not b && none_of_element n ws ≡ true
    go true h next = absurd (let e : ◌≡◌ {A = List (ℕ × CallOrUpgrade)} ((w.number, w.what) ∷ told_at n ws) [] = h in cc)
    go false h next = next h

-- the throw of an upgrade

-- the events: what waits at the element is dropped, and the upgrade has thrown
abbrev pub throw_lines : ℕ → List (ℕ × CallOrUpgrade) → List Event
throw_lines n [] = UpgradeThrew n ∷ []
throw_lines n ((r, k) ∷ xs) = Dropped r ∷ throw_lines n xs

-- what waits without them
abbrev pub without_all : List (ℕ × CallOrUpgrade) → List Entry → List Entry
without_all [] ws = ws
without_all ((r, k) ∷ xs) ws = without_all xs (without r ws)

pub rising_without_all : (xs : List (ℕ × CallOrUpgrade)) (low : ℕ) (ws : List Entry) → Rising low ws → Rising low (without_all xs ws)
rising_without_all [] low ws h = h
rising_without_all ((r, k) ∷ xs) low ws h = rising_without_all xs low (without r ws) (rising_without low r ws h)

pub each_without_all : (P : Entry → Type 0) (xs : List (ℕ × CallOrUpgrade)) (ws : List Entry) → Each P ws → Each P (without_all xs ws)
each_without_all P [] ws h = h
each_without_all P ((r, k) ∷ xs) ws h = each_without_all P xs (without r ws) (each_without P r ws h)

-- an entry that is found
pub each_found : (P : Entry → Type 0) (r : ℕ) (ws : List Entry) (w : Entry) → entry_of r ws ≡ Some w → Each P ws → P w
each_found P r [] w h all = absurd (let e : None ≡ Some w = h in cc)
each_found P r (v ∷ ws) w h all = go (v.number == r) h (λ k. each_found P r ws w k all.1)
  where
    go : (b : Bool) → (if b then Some v else entry_of r ws) ≡ Some w → (entry_of r ws ≡ Some w → P w) → P w
    go true h next = let e : v ≡ w = cc in subst P e all.0
    go false h next = next h

pub record Thrown (n : ℕ) (xs : List (ℕ × CallOrUpgrade)) (outer : List Bracket) (b c : Book) : Type 0 where
  pub is : c ≡ record b { waiting = without_all xs b.waiting; brackets = outer; thrown = n ∷ b.thrown; dropping = None }
  pub here : told_at n (without_all xs b.waiting) ≡ []
  pub others : (m : ℕ) → n == m ≡ false → told_at m (without_all xs b.waiting) ≡ told_at m b.waiting

pub record ReadsThrow (n : ℕ) (xs : List (ℕ × CallOrUpgrade)) (outer : List Bracket) (b : Book) : Type 0 where
  pub book : Book
  pub reads : Reads b (throw_lines n xs) book
  pub thrown : Thrown n xs outer b book

pub reads_throw : (n : ℕ) (xs : List (ℕ × CallOrUpgrade)) (outer : List Bracket) (low : ℕ) (b : Book) → told_at n b.waiting ≡ xs →
    b.brackets ≡ Upgrading n ∷ outer → Rising low b.waiting → goes_on b.dropping (Some n) ≡ true → b.over ≡ false → ReadsThrow n xs outer b
reads_throw n [] outer low b told inside rises drops over =
    record {
      book = after b (UpgradeThrew n);
      reads = reads_one b (UpgradeThrew n) (tested b (UpgradeThrew n) (record {
        counts = refl;
        starts = refl;
        calls = refl;
        order = refl;
        throws = none_told n b.waiting told;
        together = drops;
        closes = refl;
        nested = ap (λ bs. ends_innermost (record b { brackets = bs }) (UpgradeThrew n)) inside ∙ eq-eqb n n refl;
        paid = refl;
        upgrades = refl;
        quiet = refl;
        rest = refl;
        last = ap not over;
      }));
      thrown = record {
        is = ap (λ bs. record b { brackets = bs; thrown = n ∷ b.thrown; dropping = None }) (ap outer_of inside);
        here = told;
        others = λ m o. refl;
      };
    }
reads_throw n ((r, k) ∷ xs) outer low b told inside rises drops over =
    let f = first_of n r k xs low b.waiting rises told in
    let loses : loser b (Dropped r) ≡ Some n = ap (λ o. elim o as (λ _. Option ℕ) [ None ↦ None | Some w ↦ Some w.element ]) f.found in
    let next = reads_throw n xs outer low (after b (Dropped r)) f.here inside (rising_without low r b.waiting rises)
    (ap (λ o. goes_on o (Some n)) loses ∙ eq-eqb n n refl) over in
    let step = reads_one b (Dropped r) (tested b (Dropped r) (record {
      counts = refl;
      starts = ap is_some f.found;
      calls = refl;
      order = ap (λ o. leads o b.waiting) f.found ∙ f.first;
      throws = ap (λ o. is_in_upgrade o b.brackets) f.found
          ∙ ap (λ bs. is_in_upgrade (Some (record { number = r; element = n; what = k; queue = f.queue })) bs) inside ∙ eq-eqb n n refl;
      together = ap (λ o. goes_on b.dropping o) loses ∙ drops;
      closes = refl;
      nested = refl;
      paid = refl;
      upgrades = refl;
      quiet = refl;
      rest = refl;
      last = ap not over;
    })) in
    record {
      book = next.book;
      reads = reads_append b (Dropped r ∷ []) (throw_lines n xs) (after b (Dropped r)) next.book step next.reads;
      thrown = record {
        is = next.thrown.is;
        here = next.thrown.here;
        others = λ m o. next.thrown.others m o ∙ f.others m o;
      };
    }
