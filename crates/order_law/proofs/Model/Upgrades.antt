-- An upgrade begins, has ended, or threw.
use Rattle.std.proofs.Common.{◌≡◌, ℕ, ◌≤◌, Bool, true, false, List, [], ◌∷◌, ◌++◌, length, map, Option, Some, None, refl, sym, ap, ◌∙◌, subst, arith}
use Rattle.std.proofs.Common.{append_assoc, append-nil}
use Rattle.std.specs.Prelude.{slice_get, ◌-◌, ◌==◌, ◌||◌, ◌&&◌, not}
use Rattle.std.specs.Option.{option_and_then}
use Rattle.std.proofs.lemmas.Bool.{eqb-true, eqb-false, eq-eqb, false_from_ne_true, both_ways, or_right}
use Rattle.ce_base.specs.declared.custom_state.CustomState.TheVariants.{Failed, Custom}
use Rattle.ce_base.specs.declared.fault.Fault.{Fault}
use Rattle.rule_tokens.specs.declared.callback.CallOrUpgrade.{CallOrUpgrade}
use Rattle.rule_tokens.specs.declared.callback.CallOrUpgrade.TheVariants.{Call, Upgrade as IsUpgrade}
use Rattle.reaction_queue.specs.declared.reaction.Reaction.{Reaction}
use Rattle.reaction_queue.specs.Queues.{Queues, waiting_at, with_waiting}
use Rattle.ce_events.specs.declared.event.Event.{Event}
use Rattle.ce_events.specs.declared.event.Event.TheVariants.{Dropped, UpgradeBegun, UpgradeDone, UpgradeThrew}
use Rattle.ce_algorithms.specs.Steps.{Outcome, Goes, then_do, ◌>>◌, throw, for_each}
use Rattle.ce_algorithms.specs.Page.{Page, Element, element_of, state_of, definition_of, with_element, with_state, with_definition, with_queues}
use Rattle.ce_algorithms.specs.State.{State, log, logged}
use Rattle.ce_algorithms.specs.Upgrade.{is_upgradable, upgrade_threw}
use Rattle.order_law.specs.Book.{Entry, Upgrading, Book, blank}
use Rattle.std.proofs.lemmas.List.{length-set}
use Rattle.std.specs.List.{AllByRecursion as Each}
use Rattle.order_law.proofs.Model.Sound.{IsRow}
use Rattle.order_law.specs.Reads.{is_one_of, is_callback}
use Rattle.order_law.specs.Clauses.{may_upgrade, goes_on, ends_upgrade}
use Rattle.order_law.specs.After.{after}
use Rattle.order_law.specs.Reads.{around as outer_of}
use Rattle.order_law.proofs.Model.Reading.{Reads, tested, reads_append, reads_one, told_at, without_all, rising_without_all, each_without_all}
use Rattle.order_law.proofs.Model.Reading.{throw_lines, reads_throw, add_if}
use Rattle.order_law.proofs.Model.Invariant.{Hold, InSteps, InDrain, InReaction, InUpgrade, InHand, brackets_of, IsPlaced, told, SaysQueues, Known, fits}
use Rattle.order_law.proofs.Model.Invariant.{Ongoing, SaysElements, Holds, HoldsRest, rest_rows, HoldsIn, After}
use Rattle.order_law.proofs.Model.Rows.{waits_same, waits_other, row_same, row_other, row_twice, known_row}
use Rattle.ce_base.proofs.Places.{each_number}
use Rattle.order_law.proofs.Model.Each.{each_map}

-- a row of elements given anew

ongoing_row : (ups : List ℕ) (p : Page) (n : ℕ) (e : Element) (h : List Hold) → Ongoing ups p.elements h → Ongoing ups (with_element n e p).elements h
ongoing_row ups p n e [] o = tt
ongoing_row ups p n e (InSteps q ∷ h) o = ongoing_row ups p n e h o
ongoing_row ups p n e (InDrain q ns ∷ h) o = ongoing_row ups p n e h o
ongoing_row ups p n e (InReaction w called ∷ h) o = (known_row p n w.element e o.0, ongoing_row ups p n e h o.1)
ongoing_row ups p n e (InUpgrade m ∷ h) o = (known_row p n m e o.0, o.1, ongoing_row ups p n e h o.2)
ongoing_row ups p n e (InHand m ∷ h) o = (subst (λ rows. IsRow rows m) (sym (length-set p.elements (n - 1) e)) o.0, ongoing_row ups p n e h o.1)

no_document : (n : ℕ) → 2 ≤ n → n == 1 ≡ false
no_document n le = go (n == 1) refl
  where
    go : (b : Bool) → n == 1 ≡ b → b ≡ false
    go true t = let e = eqb-true n 1 t in absurd (omega (arith, e, le))
    go false t = refl

-- what a row has to be
pub record FitsRow (b : Book) (p : Page) (n : ℕ) (e : Element) : Type 0 where
  pub defined : Each (λ w. w.element ≡ n → fits w.what (option_and_then (slice_get p.definitions) e.definition) ≡ true) b.waiting
  pub unset : is_upgradable e.state ≡ true → e.definition ≡ None
  pub upgraded : is_one_of n b.upgraded ≡ true → is_upgradable e.state ≡ false
  pub thrown : is_one_of n b.thrown ≡ true → (is_upgradable e.state ≡ false) × (e.definition ≡ None)

pub says_row : (b : Book) (h : List Hold) (p : Page) (n : ℕ) (e : Element) → Known p.elements n → FitsRow b p n e → SaysElements b h p →
    SaysElements b h (with_element n e p)
says_row b h p n e k f s = record {
  known = each_map (λ w. Known p.elements w.element) (λ w. Known (with_element n e p).elements w.element) b.waiting
      (λ w l. known_row p n w.element e l) s.known;
  defined = all b.waiting f.defined s.defined;
  unset = each_number (λ m. is_upgradable (state_of q m) ≡ true → (element_of q m).definition ≡ None) n
      (subst (λ (x : Element). is_upgradable x.state ≡ true → x.definition ≡ None) (sym here) f.unset)
      (λ m o. subst (λ (x : Element). is_upgradable x.state ≡ true → x.definition ≡ None) (sym (there m o)) (s.unset m));
  upgraded = each_number (λ m. is_one_of m b.upgraded ≡ true → is_upgradable (state_of q m) ≡ false) n
      (subst (λ (x : Element). is_one_of n b.upgraded ≡ true → is_upgradable x.state ≡ false) (sym here) f.upgraded)
      (λ m o. subst (λ (x : Element). is_one_of m b.upgraded ≡ true → is_upgradable x.state ≡ false) (sym (there m o)) (s.upgraded m));
  thrown = each_number (λ m. is_one_of m b.thrown ≡ true → (is_upgradable (state_of q m) ≡ false) × ((element_of q m).definition ≡ None)) n
      (subst (λ (x : Element). is_one_of n b.thrown ≡ true → (is_upgradable x.state ≡ false) × (x.definition ≡ None)) (sym here) f.thrown)
      (λ m o. subst (λ (x : Element). is_one_of m b.thrown ≡ true → (is_upgradable x.state ≡ false) × (x.definition ≡ None)) (sym (there m o)) (s.thrown m));
  document = ap (λ (x : Element). x.definition) (row_other p n 1 e k (no_document n k.low)) ∙ s.document;
  ongoing = ongoing_row b.upgraded p n e h s.ongoing;
}
  where
    q : Page
    q = with_element n e p

    here : element_of q n ≡ e
    here = row_same p n e k

    there : (m : ℕ) → n == m ≡ false → element_of q m ≡ element_of p m
    there m o = row_other p n m e k o

    one : (w : Entry) → (w.element ≡ n → fits w.what (option_and_then (slice_get p.definitions) e.definition) ≡ true) →
        fits w.what (definition_of p w.element) ≡ true → fits w.what (definition_of q w.element) ≡ true
    one w at_n old = go (n == w.element) refl
      where
        go : (t : Bool) → n == w.element ≡ t → fits w.what (definition_of q w.element) ≡ true
        go true t =
            let is : n ≡ w.element = eqb-true n w.element t in
            let same : element_of q w.element ≡ e = ap (λ m. element_of q m) (sym is) ∙ here in
            ap (λ (x : Element). fits w.what (option_and_then (slice_get p.definitions) x.definition)) same ∙ at_n (sym is)
        go false t = ap (λ (x : Element). fits w.what (option_and_then (slice_get p.definitions) x.definition)) (there w.element t) ∙ old

    all : (ws : List Entry) → Each (λ w. w.element ≡ n → fits w.what (option_and_then (slice_get p.definitions) e.definition) ≡ true) ws →
        Each (λ w. fits w.what (definition_of p w.element) ≡ true) ws → Each (λ w. fits w.what (definition_of q w.element) ≡ true) ws
    all [] f s = tt
    all (w ∷ ws) f s = (one w f.0 s.0, all ws f.1 s.1)

-- the throw

threw_queues : (n : ℕ) (h : List Hold) (b : Book) (q : Queues) → 2 ≤ n → SaysQueues b (InUpgrade n ∷ h) q
    → told_at n (without_all (map told (waiting_at q n)) b.waiting) ≡ []
    → ((m : ℕ) → n == m ≡ false → told_at m (without_all (map told (waiting_at q n)) b.waiting) ≡ told_at m b.waiting)
    → SaysQueues (record b { waiting = without_all (map told (waiting_at q n)) b.waiting; brackets = brackets_of h; thrown = n ∷ b.thrown; dropping = None }) h
    (with_waiting n [] q)
threw_queues n h b q low s here others = record {
  numbers = s.numbers;
  queues = s.queues;
  rising = rising_without_all xs 0 b.waiting s.rising;
  below = each_without_all (λ w. w.number ≤ b.numbers) xs b.waiting s.below;
  waits = each_number (λ m. told_at m (without_all xs b.waiting) ≡ map told (waiting_at (with_waiting n [] q) m)) n
      (here ∙ sym (ap (map told) (waits_same n [] q)))
      (λ m o. others m o ∙ s.waits m ∙ sym (ap (map told) (waits_other n m [] q low o)));
  brackets = refl;
  opens = s.opens;
  falls = s.falls;
  placed = each_without_all (IsPlaced q.stack q.backup h) xs b.waiting s.placed;
  owed = s.owed;
}
  where
    xs : List (ℕ × CallOrUpgrade)
    xs = map told (waiting_at q n)

threw_elements : (n : ℕ) (h : List Hold) (b : Book) (p : Page) (xs : List (ℕ × CallOrUpgrade)) → SaysElements b (InUpgrade n ∷ h) p
    → told_at n (without_all xs b.waiting) ≡ []
    → SaysElements (record b { waiting = without_all xs b.waiting; brackets = brackets_of h; thrown = n ∷ b.thrown; dropping = None }) h
    (with_definition n None p)
threw_elements n h b p xs s here = record {
  known = t.known;
  defined = t.defined;
  unset = t.unset;
  upgraded = t.upgraded;
  document = t.document;
  thrown = each_number (λ m. ((n == m) || is_one_of m b.thrown) ≡ true → (is_upgradable (state_of q m) ≡ false) × ((element_of q m).definition ≡ None)) n
      (λ _. (ap (λ (x : Element). is_upgradable x.state) (row_same p n e k) ∙ not_again, ap (λ (x : Element). x.definition) (row_same p n e k)))
      (λ m o r. t.thrown m (sym (ap (λ t. t || is_one_of m b.thrown) o) ∙ r));
  ongoing = t.ongoing;
}
  where
    e : Element
    e = record (element_of p n) { definition = None }

    q : Page
    q = with_definition n None p

    k : Known p.elements n
    k = s.ongoing.0

    not_again : is_upgradable (state_of p n) ≡ false
    not_again = s.upgraded n s.ongoing.1

    c : Book
    c = record b { waiting = without_all xs b.waiting }

    without : SaysElements c h p
    without = record {
      known = each_without_all (λ w. Known p.elements w.element) xs b.waiting s.known;
      defined = each_without_all (λ w. fits w.what (definition_of p w.element) ≡ true) xs b.waiting s.defined;
      unset = s.unset;
      upgraded = s.upgraded;
      thrown = s.thrown;
      document = s.document;
      ongoing = s.ongoing.2;
    }

    nothing : (ws : List Entry) → told_at n ws ≡ [] → Each (λ w. w.element ≡ n → fits w.what None ≡ true) ws
    nothing [] z = tt
    nothing (w ∷ ws) z = go (w.element == n) refl z (nothing ws)
      where
        go : (t : Bool) → w.element == n ≡ t → add_if t (w.number, w.what) (told_at n ws) ≡ [] →
            (told_at n ws ≡ [] → Each (λ w. w.element ≡ n → fits w.what None ≡ true) ws) →
            Each (λ w. w.element ≡ n → fits w.what None ≡ true) (w ∷ ws)
        go true t z next = absurd (let x : ◌≡◌ {A = List (ℕ × CallOrUpgrade)} ((w.number, w.what) ∷ told_at n ws) [] = z in cc)
        go false t z next = (λ same. absurd (eqb-false w.element n t same), next z)

    t : SaysElements c h q
    t = says_row c h p n e k (record {
      defined = nothing (without_all xs b.waiting) here;
      unset = λ _. refl;
      upgraded = λ _. not_again;
      thrown = λ _. (not_again, refl);
    }) without

-- the lines of the drops
abbrev drop_lines : List (ℕ × Reaction) → List Event
drop_lines [] = []
drop_lines (w ∷ ws) = Dropped w.0 ∷ drop_lines ws

drop_lines_threw : (n : ℕ) (ws : List (ℕ × Reaction)) → drop_lines ws ++ UpgradeThrew n ∷ [] ≡ throw_lines n (map told ws)
drop_lines_threw n [] = refl
drop_lines_threw n (w ∷ ws) = ap (λ l. Dropped w.0 ∷ l) (drop_lines_threw n ws)

each_dropped : (ws : List (ℕ × Reaction)) (s : State) → for_each ws (λ w. log (Dropped w.0)) s ≡ Goes tt (record s { log = s.log ++ drop_lines ws })
each_dropped [] s = ap (λ l. Goes tt (record s { log = l })) (sym (append-nil s.log))
each_dropped (w ∷ ws) s = each_dropped ws (logged (Dropped w.0) s)
    ∙ ap (λ l. Goes tt (record s { log = l })) (append_assoc s.log (Dropped w.0 ∷ []) (drop_lines ws))

-- what waits at the element is dropped, and its upgrade has thrown
pub threw_holds : (n : ℕ) (h : List Hold) (l : List Event) (p : Page) → Holds (InUpgrade n ∷ h) l p →
    Holds h (l ++ throw_lines n (map told (waiting_at p.queues n))) (with_queues (with_waiting n []) (with_definition n None p))
threw_holds n h l p k =
    let xs = map told (waiting_at p.queues n) in
    let r = reads_throw n xs (brackets_of h) 0 k.book (k.queues.waits n) k.queues.brackets k.queues.rising (ap (λ o. goes_on o (Some n)) k.dropping) k.over in
    let c : Book = record k.book { waiting = without_all xs k.book.waiting; brackets = brackets_of h; thrown = n ∷ k.book.thrown; dropping = None } in
    record {
      book = c;
      reads = reads_append blank l (throw_lines n xs) k.book c k.reads (subst (Reads k.book (throw_lines n xs)) r.thrown.is r.reads);
      over = k.over;
      dropping = refl;
      queues = threw_queues n h k.book p.queues (k.elements.ongoing.0).low k.queues r.thrown.here r.thrown.others;
      elements = let e = threw_elements n h k.book p xs k.elements r.thrown.here in
          record {
            known = e.known;
            defined = e.defined;
            unset = e.unset;
            upgraded = e.upgraded;
            thrown = e.thrown;
            document = e.document;
            ongoing = e.ongoing;
          };
    }

-- the begin: it stands in a reaction that was enqueued as the element's upgrade, or in the steps of an operation; the row then has the definition, and the
-- state is failed
abbrev pub MayUpgrade : ℕ → List Hold → Type 0
MayUpgrade n [] = ⊥
MayUpgrade n (InSteps q ∷ h) = Unit {0}
MayUpgrade n (InDrain q ns ∷ h) = ⊥
MayUpgrade n (InReaction w called ∷ h) = (w.element ≡ n) × (w.what ≡ IsUpgrade)
MayUpgrade n (InUpgrade m ∷ h) = ⊥
MayUpgrade n (InHand m ∷ h) = MayUpgrade n h

may_begin : (n : ℕ) (h : List Hold) → MayUpgrade n h → may_upgrade n (brackets_of h) ≡ true
may_begin n [] m = absurd m
may_begin n (InSteps q ∷ h) m = refl
may_begin n (InDrain q ns ∷ h) m = absurd m
may_begin n (InReaction w called ∷ h) m = ap (λ x. x && not (is_callback w.what)) (eq-eqb w.element n m.0) ∙ ap (λ x. not (is_callback x)) m.1
may_begin n (InUpgrade k ∷ h) m = absurd m
may_begin n (InHand k ∷ h) m = may_begin n h m

-- where no definition is set, only upgrades wait
pub only_upgrades : (p : Page) (n : ℕ) (d : Option ℕ) (ws : List Entry) → (element_of p n).definition ≡ None →
    Each (λ w. fits w.what (definition_of p w.element) ≡ true) ws →
    Each (λ w. w.element ≡ n → fits w.what (option_and_then (slice_get p.definitions) d) ≡ true) ws
only_upgrades p n d [] none f = tt
only_upgrades p n d (w ∷ ws) none f = (
  λ is. go w.what (sym (ap (λ o. fits w.what (option_and_then (slice_get p.definitions) o)) (ap (λ m. (element_of p m).definition) is ∙ none)) ∙ f.0),
  only_upgrades p n d ws none f.1,
)
  where
    go : (k : CallOrUpgrade) → fits k None ≡ true → fits k (option_and_then (slice_get p.definitions) d) ≡ true
    go (Call name) x = absurd (let y : false ≡ true = x in cc)
    go IsUpgrade x = refl

pub up_holds : (n d : ℕ) (h : List Hold) (l : List Event) (p : Page) → Known p.elements n → MayUpgrade n h → is_upgradable (state_of p n) ≡ true →
    Holds h l p → Holds (InUpgrade n ∷ h) (l ++ UpgradeBegun n ∷ []) (with_state n Failed (with_definition n (Some d) p))
up_holds n d h l p known may upgradable k =
    let b = k.book in
    let e : Element = record { state = Failed; definition = Some d } in
    let first : Element = record (element_of p n) { definition = Some d } in
    let none = k.elements.unset n upgradable in
    let again : is_one_of n b.upgraded ≡ false =
    false_from_ne_true (is_one_of n b.upgraded) (λ m. both_ways (is_upgradable (state_of p n)) (k.elements.upgraded n m) upgradable) in
    let row : with_state n Failed (with_definition n (Some d) p) ≡ with_element n e p =
    ap (λ (x : Element). with_element n (record x { state = Failed }) (with_definition n (Some d) p)) (row_same p n first known) ∙ row_twice p n first e in
    let t = says_row b h p n e known (record {
      defined = only_upgrades p n (Some d) b.waiting none k.elements.defined;
      unset = λ x. absurd (let y : false ≡ true = x in cc);
      upgraded = λ _. refl;
      thrown = λ m. absurd (both_ways (is_upgradable (state_of p n)) (k.elements.thrown n m).0 upgradable);
    }) k.elements in
    subst (Holds (InUpgrade n ∷ h) (l ++ UpgradeBegun n ∷ [])) (sym row) (record {
      book = after b (UpgradeBegun n);
      reads = reads_append blank l (UpgradeBegun n ∷ []) b (after b (UpgradeBegun n)) k.reads (reads_one b (UpgradeBegun n) (tested b (UpgradeBegun n) (record {
        counts = refl;
        starts = refl;
        calls = refl;
        order = refl;
        throws = refl;
        together = ap (λ o. goes_on o None) k.dropping;
        closes = refl;
        nested = refl;
        paid = refl;
        upgrades = ap (λ bs. may_upgrade n bs && not (is_one_of n b.upgraded)) k.queues.brackets
            ∙ ap (λ x. x && not (is_one_of n b.upgraded)) (may_begin n h may) ∙ ap not again;
        quiet = refl;
        rest = refl;
        last = ap not k.over;
      })));
      over = k.over;
      dropping = refl;
      queues = let q = k.queues in record {
        numbers = q.numbers;
        queues = q.queues;
        rising = q.rising;
        below = q.below;
        waits = q.waits;
        brackets = ap (λ bs. Upgrading n ∷ bs) q.brackets;
        opens = q.opens;
        falls = q.falls;
        placed = q.placed;
        owed = q.owed;
      };
      elements = record {
        known = t.known;
        defined = t.defined;
        unset = t.unset;
        upgraded = each_number (λ m. ((n == m) || is_one_of m b.upgraded) ≡ true → is_upgradable (state_of (with_element n e p) m) ≡ false) n
            (λ _. ap (λ (x : Element). is_upgradable x.state) (row_same p n e known))
            (λ m o r. t.upgraded m (sym (ap (λ t. t || is_one_of m b.upgraded) o) ∙ r));
        thrown = t.thrown;
        document = t.document;
        ongoing = (known_row p n n e known, ap (λ t. t || is_one_of n b.upgraded) (eq-eqb n n refl), more (with_element n e p).elements h t.ongoing);
      };
    })
  where
    more : (rows : List Element) (g : List Hold) → Ongoing k.book.upgraded rows g → Ongoing (n ∷ k.book.upgraded) rows g
    more rows [] o = tt
    more rows (InSteps q ∷ g) o = more rows g o
    more rows (InDrain q ns ∷ g) o = more rows g o
    more rows (InReaction w called ∷ g) o = (o.0, more rows g o.1)
    more rows (InHand m ∷ g) o = (o.0, more rows g o.1)
    more rows (InUpgrade m ∷ g) o = (o.0, or_right (n == m) (is_one_of m k.book.upgraded) o.1, more rows g o.2)

-- the end
pub done_holds : (n : ℕ) (h : List Hold) (l : List Event) (p : Page) → Holds (InUpgrade n ∷ h) l p → Holds h (l ++ UpgradeDone n ∷ []) (with_state n Custom p)
done_holds n h l p k =
    let b = k.book in
    let e : Element = record (element_of p n) { state = Custom } in
    let known = k.elements.ongoing.0 in
    let t = says_row b (InUpgrade n ∷ h) p n e known (record {
      defined = each_map (λ w. fits w.what (definition_of p w.element) ≡ true) (λ w. w.element ≡ n
          → fits w.what (option_and_then (slice_get p.definitions) e.definition) ≡ true) b.waiting
          (λ w f is. sym (ap (λ m. fits w.what (definition_of p m)) is) ∙ f) k.elements.defined;
      unset = λ x. absurd (let y : false ≡ true = x in cc);
      upgraded = λ _. refl;
      thrown = λ m. (refl, (k.elements.thrown n m).1);
    }) k.elements in
    record {
      book = record b { brackets = brackets_of h; dropping = None };
      reads = reads_append blank l (UpgradeDone n ∷ []) b _ k.reads
          (subst (λ bs. Reads b (UpgradeDone n ∷ []) (record b { brackets = bs; dropping = None })) (ap outer_of k.queues.brackets)
          (reads_one b (UpgradeDone n) (tested b (UpgradeDone n) (record {
            counts = refl;
            starts = refl;
            calls = refl;
            order = refl;
            throws = refl;
            together = ap (λ o. goes_on o None) k.dropping;
            closes = refl;
            nested = ap (λ bs. ends_upgrade n bs) k.queues.brackets ∙ eq-eqb n n refl;
            paid = refl;
            upgrades = refl;
            quiet = refl;
            rest = refl;
            last = ap not k.over;
          }))));
      over = k.over;
      dropping = refl;
      queues = let q = k.queues in record {
        numbers = q.numbers;
        queues = q.queues;
        rising = q.rising;
        below = q.below;
        waits = q.waits;
        brackets = refl;
        opens = q.opens;
        falls = q.falls;
        placed = q.placed;
        owed = q.owed;
      };
      elements = record {
        known = t.known;
        defined = t.defined;
        unset = t.unset;
        upgraded = t.upgraded;
        thrown = t.thrown;
        document = t.document;
        ongoing = t.ongoing.2;
      };
    }

-- what holds beside, where a row was given anew
pub rest_row : (n : ℕ) (e : Element) (s : State) → HoldsRest s.page.forest (length s.page.elements) s.page.stacks s.variables
    → HoldsRest s.page.forest (length (with_element n e s.page).elements) s.page.stacks s.variables
rest_row n e s k = rest_rows s.page.forest (length s.page.elements) (length (with_element n e s.page).elements) s.page.stacks s.variables
    (sym (length-set s.page.elements (n - 1) e)) k

-- the upgrade has thrown, and what would come next does not come
pub threw_then : {B : Type 0} (n : ℕ) (f : Fault) (h : List Hold) (s : State) (k : Unit {0} → State → Outcome State B) → HoldsIn (InUpgrade n ∷ h) s →
    After h (then_do (upgrade_threw n f s) k)
threw_then {B} n f h s k held =
    let ws = waiting_at s.page.queues n in
    let t : State = record s { page = with_queues (with_waiting n []) (with_definition n None s.page) } in
    let lines : (s.log ++ drop_lines ws) ++ UpgradeThrew n ∷ [] ≡ s.log ++ throw_lines n (map told ws) =
    append_assoc s.log (drop_lines ws) (UpgradeThrew n ∷ []) ∙ ap (λ l. s.log ++ l) (drop_lines_threw n ws) in
    let after : Holds h ((s.log ++ drop_lines ws) ++ UpgradeThrew n ∷ []) t.page =
    subst (λ l. Holds h l t.page) (sym lines) (threw_holds n h s.log s.page held.holds) in
    subst (λ (o : Outcome State (Unit {0})). After {A = B} h (then_do (then_do o (λ _. log (UpgradeThrew n) >> throw f)) k)) (sym (each_dropped ws t))
    (record { holds = after; notes = held.notes; rest = rest_row n (record (element_of s.page n) { definition = None }) s held.rest })
