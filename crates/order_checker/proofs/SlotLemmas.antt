-- Slots.
use Rattle.std.proofs.Common.{rules, ◌≡◌, ◌≢◌, ◌≤◌, ◌<◌, ◌+◌, ◌-◌, ℕ, zero, suc, Bool, true, false, List, [], ◌∷◌, ◌++◌, length, set, get_or, refl, ap, sym}
use Rattle.std.proofs.Common.{subst, ◌∙◌, arith, Option, Some, None, ◌⊎◌, inl, inr}
use Rattle.std.specs.Prelude.{not, ◌&&◌, ◌==◌, if◌then◌else◌}
use Rattle.std.specs.List.{slice_get}
use Rattle.std.specs.Prelude.{is_some}
use Rattle.std.specs.Ordering.{nat_cmp}
use Rattle.std.specs.Map.{count_at}
use Rattle.std.specs.Option.{unwrap_or}
use Rattle.std.specs.BTreeMap.{BTreeMap, get, is_at}
use Rattle.std.proofs.lemmas.Option.{slice_get-get_or, slice_get_within}
use Rattle.std.proofs.lemmas.List.{length-set}
use Rattle.order_law.specs.Clauses.{leads}
use Rattle.std.proofs.lemmas.Bool.{cases_eq, ne_eqb, and_right, both_ways}
use Rattle.std.proofs.lemmas.List.{length-append}
use Rattle.ce_base.proofs.Places.{set_found, set_other, slice_get-append_last}
use Rattle.order_checker.specs.declared.waits.Slot.{Slot}
use Rattle.order_law.specs.Book.{Entry}
use Rattle.order_law.specs.Reads.{entry_of, without, is_first, none_of_element}
use Rattle.order_checker.specs.Slots.{Waiting, waits_in, waits_at, AreKnown, entry_of_slot, kept, waiting_from, LastOf, AreLinked}
use Rattle.order_checker.proofs.ReadAt.{not_within, push_get, get_push}

pub eq_same : (n : ℕ) → (n == n) ≡ true
eq_same n = search rules

-- one more at the end waits

kept_push : (b : Bool) (w : Entry) (ws vs : List Entry) → kept b w (ws ++ vs) ≡ kept b w ws ++ vs
kept_push true w ws vs = refl
kept_push false w ws vs = refl

pub waiting_push : (r n : ℕ) (ss : List Slot) (s : Slot) → s.waits ≡ true → n ≡ r + length ss
    → waiting_from r (ss ++ s ∷ []) ≡ waiting_from r ss ++ entry_of_slot n s ∷ []
waiting_push r n [] s waits at = ap (λ b. kept b (entry_of_slot r s) []) waits ∙ ap (λ k. entry_of_slot k s ∷ []) (omega (arith, at))
waiting_push r n (t ∷ ss) s waits at =
    ap (kept t.waits (entry_of_slot r t)) (waiting_push (suc r) n ss s waits (omega (arith, at)))
    ∙ kept_push t.waits (entry_of_slot r t) (waiting_from (suc r) ss) (entry_of_slot n s ∷ [])

-- the one with a number

entry_kept : (b : Bool) (r : ℕ) (w : Entry) (ws : List Entry) → w.number ≢ r → entry_of r (kept b w ws) ≡ entry_of r ws
entry_kept true r w ws ne = ap (λ t. if t then Some w else entry_of r ws) (ne_eqb w.number r ne)
entry_kept false r w ws ne = refl

-- numbers below the first are not there
pub entry_below : (r k : ℕ) (ss : List Slot) → k < r → entry_of k (waiting_from r ss) ≡ None
entry_below r k [] lt = refl
entry_below r k (s ∷ ss) lt = entry_kept s.waits k (entry_of_slot r s) (waiting_from (suc r) ss) (omega (arith, lt))
    ∙ entry_below (suc r) k ss (omega (arith, lt))

pub entry_past : (r k : ℕ) (ss : List Slot) → r + length ss ≤ k → entry_of k (waiting_from r ss) ≡ None
entry_past r k [] le = refl
entry_past r k (s ∷ ss) le = entry_kept s.waits k (entry_of_slot r s) (waiting_from (suc r) ss) (omega (arith, le))
    ∙ entry_past (suc r) k ss (omega (arith, le))

-- what a slot is found as
abbrev pub found : Bool → Entry → Option Entry
found true w = Some w
found false w = None

entry_here : (b : Bool) (r : ℕ) (s : Slot) (ss : List Slot) → entry_of r (kept b (entry_of_slot r s) (waiting_from (suc r) ss)) ≡ found b (entry_of_slot r s)
entry_here true r s ss = ap (λ t. if t then Some (entry_of_slot r s) else entry_of r (waiting_from (suc r) ss)) (eq_same r)
entry_here false r s ss = entry_below (suc r) r ss (omega arith)

pub entry_at : (r i k : ℕ) (ss : List Slot) (s : Slot) → slice_get ss i ≡ Some s → k ≡ r + i
    → entry_of k (waiting_from r ss) ≡ found s.waits (entry_of_slot k s)
entry_at r i k [] s read at = absurd (not_within i s read)
entry_at r zero k (t ∷ ss) s read at =
    let same : t ≡ s = cc read in
    let here : k ≡ r = omega (arith, at) in
    rw (here, ← same) (entry_here t.waits r t ss)
entry_at r (suc i) k (t ∷ ss) s read at =
    entry_kept t.waits k (entry_of_slot r t) (waiting_from (suc r) ss) (omega (arith, at)) ∙ entry_at (suc r) i k ss s read (omega (arith, at))

-- it waits no more

without_kept : (b : Bool) (r : ℕ) (w : Entry) (ws : List Entry) → w.number ≢ r → without r (kept b w ws) ≡ kept b w (without r ws)
without_kept true r w ws ne = ap (λ t. if t then ws else w ∷ without r ws) (ne_eqb w.number r ne)
without_kept false r w ws ne = refl

pub without_at : (r i k : ℕ) (ss : List Slot) (s : Slot) → slice_get ss i ≡ Some s → s.waits ≡ true → k ≡ r + i
    → without k (waiting_from r ss) ≡ waiting_from r (set ss i (record s { waits = false }))
without_at r i k [] s read waits at = absurd (not_within i s read)
without_at r zero k (t ∷ ss) s read waits at =
    let same : t ≡ s = cc read in
    let here : r ≡ k = omega (arith, at) in
    ap (λ b. without k (kept b (entry_of_slot r t) (waiting_from (suc r) ss))) (ap (λ u. u.waits) same ∙ waits)
    ∙ ap (λ b. if b then waiting_from (suc r) ss else entry_of_slot r t ∷ without k (waiting_from (suc r) ss)) (ap (λ n. r == n) (sym here) ∙ eq_same r)
without_at r (suc i) k (t ∷ ss) s read waits at =
    without_kept t.waits k (entry_of_slot r t) (waiting_from (suc r) ss) (omega (arith, at))
    ∙ ap (kept t.waits (entry_of_slot r t)) (without_at (suc r) i k ss s read waits (omega (arith, at)))

-- whether it is the first that waits of an element

first_kept : (b : Bool) (k n : ℕ) (w : Entry) (ws : List Entry) → w.number ≢ k → (b ≡ true → w.element ≢ n) → is_first k n (kept b w ws) ≡ is_first k n ws
first_kept true k n w ws ne other =
    ap (λ t. if t then true else not (w.element == n) && is_first k n ws) (ne_eqb w.number k ne)
    ∙ ap (λ t. not t && is_first k n ws) (ne_eqb w.element n (other refl))
first_kept false k n w ws ne other = refl

first_here : (b : Bool) (r n : ℕ) (s : Slot) (ss : List Slot) → b ≡ true → is_first r n (kept b (entry_of_slot r s) (waiting_from (suc r) ss)) ≡ true
first_here true r n s ss waits = ap (λ t. if t then true else not (s.element == n) && is_first r n (waiting_from (suc r) ss)) (eq_same r)
first_here false r n s ss waits = absurd (cc waits)

-- no slot before it waits of the element
pub first_true : (r i k n : ℕ) (ss : List Slot) (s : Slot) → slice_get ss i ≡ Some s → s.waits ≡ true → k ≡ r + i
    → ((j : ℕ) (t : Slot) → slice_get ss j ≡ Some t → j < i → t.waits ≡ true → t.element ≢ n) → is_first k n (waiting_from r ss) ≡ true
first_true r i k n [] s read waits at none = absurd (not_within i s read)
first_true r zero k n (t ∷ ss) s read waits at none =
    let same : t ≡ s = cc read in
    let here : k ≡ r = omega (arith, at) in
    rw here (first_here t.waits r n t ss (ap (λ u. u.waits) same ∙ waits))
first_true r (suc i) k n (t ∷ ss) s read waits at none =
    first_kept t.waits k n (entry_of_slot r t) (waiting_from (suc r) ss) (omega (arith, at)) (none zero t refl (omega arith))
    ∙ first_true (suc r) i k n ss s read waits (omega (arith, at)) (λ j u there lt. none (suc j) u there (omega (arith, lt)))

-- a slot before it waits of the element

first_stops : (b : Bool) (k n : ℕ) (w : Entry) (ws : List Entry) → w.number ≢ k → b ≡ true → w.element ≡ n → is_first k n (kept b w ws) ≡ false
first_stops true k n w ws ne waits of =
    ap (λ t. if t then true else not (w.element == n) && is_first k n ws) (ne_eqb w.number k ne)
    ∙ ap (λ t. not t && is_first k n ws) (ap (λ m. w.element == m) (sym of) ∙ eq_same w.element)
first_stops false k n w ws ne waits of = absurd (cc waits)

first_goes_on : (b : Bool) (k n : ℕ) (w : Entry) (ws : List Entry) → w.number ≢ k → is_first k n ws ≡ false → is_first k n (kept b w ws) ≡ false
first_goes_on true k n w ws ne rest =
    ap (λ t. if t then true else not (w.element == n) && is_first k n ws) (ne_eqb w.number k ne) ∙ ap (λ t. not (w.element == n) && t) rest
    ∙ and_right (not (w.element == n)) false refl
first_goes_on false k n w ws ne rest = rest

pub first_false : (r i j k n : ℕ) (ss : List Slot) (t : Slot) → slice_get ss j ≡ Some t → j < i → t.waits ≡ true → t.element ≡ n → k ≡ r + i
    → is_first k n (waiting_from r ss) ≡ false
first_false r i j k n [] t read lt waits of at = absurd (not_within j t read)
first_false r i zero k n (u ∷ ss) t read lt waits of at =
    let same : u ≡ t = cc read in
    first_stops u.waits k n (entry_of_slot r u) (waiting_from (suc r) ss) (omega (arith, at, lt)) (ap (λ x. x.waits) same ∙ waits)
    (ap (λ x. x.element) same ∙ of)
first_false r zero (suc j) k n (u ∷ ss) t read lt waits of at = absurd (omega (arith, lt))
first_false r (suc i) (suc j) k n (u ∷ ss) t read lt waits of at =
    first_goes_on u.waits k n (entry_of_slot r u) (waiting_from (suc r) ss) (omega (arith, at))
    (first_false (suc r) i j k n ss t read (omega (arith, lt)) waits of (omega (arith, at)))

-- whether none waits of an element

none_kept : (b : Bool) (n : ℕ) (w : Entry) (ws : List Entry) → (b ≡ true → w.element ≢ n) → none_of_element n (kept b w ws) ≡ none_of_element n ws
none_kept true n w ws other = ap (λ t. not t && none_of_element n ws) (ne_eqb w.element n (other refl))
none_kept false n w ws other = refl

pub none_true : (r n : ℕ) (ss : List Slot) → ((j : ℕ) (t : Slot) → slice_get ss j ≡ Some t → t.waits ≡ true → t.element ≢ n)
    → none_of_element n (waiting_from r ss) ≡ true
none_true r n [] none = refl
none_true r n (t ∷ ss) none = none_kept t.waits n (entry_of_slot r t) (waiting_from (suc r) ss) (none zero t refl)
    ∙ none_true (suc r) n ss (λ j u there. none (suc j) u there)

none_stops : (b : Bool) (n : ℕ) (w : Entry) (ws : List Entry) → b ≡ true → w.element ≡ n → none_of_element n (kept b w ws) ≡ false
none_stops true n w ws waits of = ap (λ t. not t && none_of_element n ws) (ap (λ m. w.element == m) (sym of) ∙ eq_same w.element)
none_stops false n w ws waits of = absurd (cc waits)

none_goes_on : (b : Bool) (n : ℕ) (w : Entry) (ws : List Entry) → none_of_element n ws ≡ false → none_of_element n (kept b w ws) ≡ false
none_goes_on true n w ws rest = ap (λ t. not (w.element == n) && t) rest ∙ and_right (not (w.element == n)) false refl
none_goes_on false n w ws rest = rest

pub none_false : (r j n : ℕ) (ss : List Slot) (t : Slot) → slice_get ss j ≡ Some t → t.waits ≡ true → t.element ≡ n
    → none_of_element n (waiting_from r ss) ≡ false
none_false r j n [] t read waits of = absurd (not_within j t read)
none_false r zero n (u ∷ ss) t read waits of =
    let same : u ≡ t = cc read in
    none_stops u.waits n (entry_of_slot r u) (waiting_from (suc r) ss) (ap (λ x. x.waits) same ∙ waits) (ap (λ x. x.element) same ∙ of)
none_false r (suc j) n (u ∷ ss) t read waits of =
    none_goes_on u.waits n (entry_of_slot r u) (waiting_from (suc r) ss) (none_false (suc r) j n ss t read waits of)

-- the number that an element got last

below_or : (a b : ℕ) → (a ≤ b) ⊎ (b < a)
below_or zero b = inl (omega arith)
below_or (suc a) zero = inr (omega arith)
below_or (suc a) (suc b) = elim (below_or a b) [ inl le ↦ inl (omega (arith, le)) | inr lt ↦ inr (omega (arith, lt)) ]

-- one of the first m waits: then the last of its element does
last_waits : (ss : List Slot) (n m p : ℕ) → AreLinked ss → LastOf n m ss p → (j : ℕ) (t : Slot) → slice_get ss j ≡ Some t → j < m → t.waits ≡ true
    → t.element ≡ n
    → (q : ℕ) × (p ≡ suc q) × (q < m) × ((s : Slot) × (slice_get ss q ≡ Some s) × (s.element ≡ n) × (s.waits ≡ true))
last_waits ss n m zero are last j t read lt waits of = absurd (last.later j t read (omega arith) lt of)
last_waits ss n m (suc q) are last j t read lt waits of =
    let h : (q < m) × ((s : Slot) × (slice_get ss q ≡ Some s) × (s.element ≡ n)) = last.here q refl in
    (q, refl, h.0, (h.1.0, h.1.1, h.1.2, by_place (cases_eq j q)))
  where
    open_here : (q < m) × ((s : Slot) × (slice_get ss q ≡ Some s) × (s.element ≡ n))
    open_here = last.here q refl

    by_place : (j ≡ q) ⊎ (j ≢ q) → open_here.1.0.waits ≡ true
    by_place (inl same) = let e : Some t ≡ Some open_here.1.0 = sym read ∙ ap (slice_get ss) same ∙ open_here.1.1 in
        let k : t ≡ open_here.1.0 = cc e in sym (ap (λ u. u.waits) k) ∙ waits
    by_place (inr ne) = elim (below_or (suc q) j) [
      | inl past ↦ absurd (last.later j t read past lt of)
      | inr under ↦ are.in_order j q t open_here.1.0 read open_here.1.1 (omega (arith, under, ne)) (of ∙ sym open_here.1.2) waits
    ]

-- the first that waits of an element, by the number before it
pub first_by_previous : (ss : List Slot) (i : ℕ) (s : Slot) (b : Bool) → AreLinked ss → slice_get ss i ≡ Some s → s.waits ≡ true
    → ((q : ℕ) (t : Slot) → s.previous ≡ suc q → slice_get ss q ≡ Some t → t.waits ≡ b) → (s.previous ≡ 0 → b ≡ false)
    → is_first (suc i) s.element (waiting_from 1 ss) ≡ not b
first_by_previous ss i s true are read waits says none =
    by_previous s.previous refl
  where
    by_previous : (p : ℕ) → s.previous ≡ p → is_first (suc i) s.element (waiting_from 1 ss) ≡ false
    by_previous zero at = absurd (both_ways true (none at) refl)
    by_previous (suc q) at =
        let h = (are.linked i s read).here q at in
        first_false 1 i q (suc i) s.element ss h.1.0 h.1.1 h.0 (says q h.1.0 at h.1.1) h.1.2 (omega arith)
first_by_previous ss i s false are read waits says none =
    first_true 1 i (suc i) s.element ss s read waits (omega arith)
    (λ j t there lt still of.
    let l = last_waits ss s.element i s.previous are (are.linked i s read) j t there lt still of in
    both_ways _ (says l.0 l.3.0 l.1 l.3.1) l.3.3)

-- whether none waits of an element, by the number that it got last
pub none_by_last : (ss : List Slot) (n p : ℕ) (b : Bool) → AreLinked ss → LastOf n (length ss) ss p
    → ((q : ℕ) (t : Slot) → p ≡ suc q → slice_get ss q ≡ Some t → t.waits ≡ b) → (p ≡ 0 → b ≡ false)
    → none_of_element n (waiting_from 1 ss) ≡ not b
none_by_last ss n zero true are last says none = absurd (both_ways true (none refl) refl)
none_by_last ss n (suc q) true are last says none =
    let h = last.here q refl in
    none_false 1 q n ss h.1.0 h.1.1 (says q h.1.0 refl h.1.1) h.1.2
none_by_last ss n p false are last says none =
    none_true 1 n ss (λ j t there still of.
    let l = last_waits ss n (length ss) p are last j t there (slice_get_within ss j t there) still of in
    both_ways _ (says l.0 l.3.0 l.1 l.3.1) l.3.3)

-- one more slot

last_push : (ss : List Slot) (s : Slot) (n m p : ℕ) → m ≤ length ss → LastOf n m ss p → LastOf n m (ss ++ s ∷ []) p
last_push ss s n m p le last =
    record {
      later = λ i t read past lt. elim (push_get ss s i t read) [ inl there ↦ last.later i t there past lt | inr end ↦ absurd (omega (arith, end.0, lt, le)) ];
      here = λ q at. (let h = last.here q at in (h.0, (h.1.0, get_push ss s q h.1.0 h.1.1, h.1.2)));
    }

pub linked_push : (ss : List Slot) (s : Slot) → AreLinked ss → LastOf s.element (length ss) ss s.previous → s.waits ≡ true → AreLinked (ss ++ s ∷ [])
linked_push ss s are last waits =
    record {
      linked = λ i t read. elim (push_get ss s i t read) [
        | inl there ↦ last_push ss s t.element i t.previous (omega (arith, slice_get_within ss i t there)) (are.linked i t there)
        | inr end ↦ subst (λ u. LastOf u.element i (ss ++ s ∷ []) u.previous) (sym end.1)
            (subst (λ m. LastOf s.element m (ss ++ s ∷ []) s.previous) (sym end.0) (last_push ss s s.element (length ss) s.previous (omega arith) last))
      ];
      in_order = λ i j t u first second lt same still. elim (push_get ss s j u second) [
        | inl there ↦ elim (push_get ss s i t first) [
          | inl before ↦ are.in_order i j t u before there lt same still
          | inr end ↦ absurd (omega (arith, end.0, slice_get_within ss j u there, lt))
        ]
        | inr end ↦ ap (λ v. v.waits) end.1 ∙ waits
      ];
    }

pub last_same : (ss : List Slot) (s : Slot) → LastOf s.element (length (ss ++ s ∷ [])) (ss ++ s ∷ []) (suc (length ss))
last_same ss s =
    record {
      later = λ i t read past lt. absurd (omega (arith, past, slice_get_within (ss ++ s ∷ []) i t read, length-append ss (s ∷ [])));
      here = λ q at. (
        omega (arith, at, length-append ss (s ∷ [])),
        (s, (let k : q ≡ length ss = omega (arith, at) in ap (slice_get (ss ++ s ∷ [])) k ∙ slice_get-append_last ss s), refl),
      );
    }

pub last_other : (ss : List Slot) (s : Slot) (n p : ℕ) → s.element ≢ n → LastOf n (length ss) ss p → LastOf n (length (ss ++ s ∷ [])) (ss ++ s ∷ []) p
last_other ss s n p ne last =
    record {
      later = λ i t read past lt. elim (push_get ss s i t read) [
        | inl there ↦ last.later i t there past (slice_get_within ss i t there)
        | inr end ↦ (λ e. ne (ap (λ u. u.element) (sym end.1) ∙ e))
      ];
      here = λ q at. (let h = last.here q at in (omega (arith, h.0, length-append ss (s ∷ [])), (h.1.0, get_push ss s q h.1.0 h.1.1, h.1.2)));
    }

-- whether a number waits, by its slot

found_some : (b : Bool) (w : Entry) → is_some (found b w) ≡ b
found_some true w = refl
found_some false w = refl

pub waits_some : (ss : List Slot) (k : ℕ) → waits_at ss k ≡ is_some (entry_of k (waiting_from 1 ss))
waits_some ss zero = ap is_some (sym (entry_below 1 0 ss (omega arith)))
waits_some ss (suc i) = by_slot (slice_get ss i) refl
  where
    past : (ss : List Slot) (i : ℕ) → slice_get ss i ≡ None → length ss ≤ i
    past [] i none = omega arith
    past (s ∷ ss) zero none = absurd (cc none)
    past (s ∷ ss) (suc i) none = omega (arith, past ss i none)

    by_slot : (o : Option Slot) → slice_get ss i ≡ o → waits_in (slice_get ss i) ≡ is_some (entry_of (suc i) (waiting_from 1 ss))
    by_slot None read = ap waits_in read ∙ ap is_some (sym (entry_past 1 (suc i) ss (omega (arith, past ss i read))))
    by_slot (Some s) read = ap waits_in read ∙ sym (ap is_some (entry_at 1 i (suc i) ss s read (omega arith)) ∙ found_some s.waits (entry_of_slot (suc i) s))

-- the slot of a number that waits
pub record There (ss : List Slot) (k : ℕ) : Type 0 where
  pub place : ℕ
  pub number : k ≡ suc place
  pub slot : Slot
  pub read : slice_get ss place ≡ Some slot
  pub still : slot.waits ≡ true

pub there : (ss : List Slot) (k : ℕ) → waits_at ss k ≡ true → There ss k
there ss zero waits = absurd (cc waits)
there ss (suc i) waits = by_slot (slice_get ss i) refl
  where
    by_slot : (o : Option Slot) → slice_get ss i ≡ o → There ss (suc i)
    by_slot None read = (let k : false ≡ true = ap waits_in (sym read) ∙ waits in absurd (cc k))
    by_slot (Some s) read = record { place = i; number = refl; slot = s; read = read; still = ap waits_in (sym read) ∙ waits }

pub within : (ss : List Slot) (k : ℕ) → waits_at ss k ≡ true → (1 ≤ k) × (k - 1 < length ss)
within ss k waits = let t = there ss k waits in (omega (arith, t.number), omega (arith, t.number, slice_get_within ss t.place t.slot t.read))

leads_none : (o : Option Entry) (ws : List Entry) → is_some o ≡ false → leads o ws ≡ true
leads_none None ws none = refl
leads_none (Some w) ws absent = absurd (cc absent)

pub leads_absent : (ss : List Slot) (k : ℕ) → waits_at ss k ≡ false → true ≡ leads (entry_of k (waiting_from 1 ss)) (waiting_from 1 ss)
leads_absent ss k absent = sym (leads_none (entry_of k (waiting_from 1 ss)) (waiting_from 1 ss) (sym (waits_some ss k) ∙ absent))

waits_of : (ss : List Slot) (p q : ℕ) (t : Slot) → p ≡ suc q → slice_get ss q ≡ Some t → t.waits ≡ waits_at ss p
waits_of ss p q t at read = sym (ap (waits_at ss) at ∙ ap waits_in read)

slot_at : (ss : List Slot) (i : ℕ) (d : Slot) → i < length ss → d ≡ get_or ss i d → slice_get ss i ≡ Some d
slot_at ss i d lt read = slice_get-get_or ss i d lt ∙ ap Some (sym read)

pub leads_there : (ss : List Slot) (k : ℕ) (d : Slot) → AreLinked ss → waits_at ss k ≡ true → d ≡ get_or ss (k - 1) d
    → not (waits_at ss d.previous) ≡ leads (entry_of k (waiting_from 1 ss)) (waiting_from 1 ss)
leads_there ss k d are waits read =
    let t = there ss k waits in
    let back : k - 1 ≡ t.place = omega (arith, t.number) in
    let here : slice_get ss t.place ≡ Some d = ap (slice_get ss) (sym back) ∙ slot_at ss (k - 1) d (within ss k waits).1 read in
    let still : d.waits ≡ true = (let e : Some d ≡ Some t.slot = sym here ∙ t.read in (let g : d ≡ t.slot = cc e in ap (λ u. u.waits) g ∙ t.still)) in
    let entry : entry_of k (waiting_from 1 ss) ≡ Some (entry_of_slot k d) =
    entry_at 1 t.place k ss d here (omega (arith, t.number)) ∙ ap (λ b. found b (entry_of_slot k d)) still in
    sym (ap (λ o. leads o (waiting_from 1 ss)) entry ∙ ap (λ n. is_first n d.element (waiting_from 1 ss)) t.number
    ∙ first_by_previous ss t.place d (waits_at ss d.previous) are here still (λ q u at found. waits_of ss d.previous q u at found)
    (λ zero_is. ap (waits_at ss) zero_is))

pub none_there : (ss : List Slot) (n p : ℕ) → AreLinked ss → LastOf n (length ss) ss p → not (waits_at ss p) ≡ none_of_element n (waiting_from 1 ss)
none_there ss n p are last = sym (none_by_last ss n p (waits_at ss p) are last (λ q t at read. waits_of ss p q t at read) (λ zero_is. ap (waits_at ss) zero_is))

-- a reaction that leads waits no more

changed_get : (ss : List Slot) (i j : ℕ) (s t : Slot) → slice_get ss i ≡ Some s → slice_get (set ss i (record s { waits = false })) j ≡ Some t
    → ((j ≡ i) × (t ≡ record s { waits = false })) ⊎ ((j ≢ i) × (slice_get ss j ≡ Some t))
changed_get ss i j s t read changed =
    elim (cases_eq j i) [
      | inl same ↦ inl (
        same,
        (let e : Some t ≡ Some (record s { waits = false }) = sym changed ∙ ap (slice_get (set ss i (record s { waits = false }))) same
            ∙ set_found ss i s (record s { waits = false }) read in cc e),
      )
      | inr ne ↦ inr (ne, sym (set_other ss i j (record s { waits = false }) (λ e. ne (sym e))) ∙ changed)
    ]

last_set : (ss : List Slot) (i : ℕ) (s : Slot) (n m p : ℕ) → slice_get ss i ≡ Some s → LastOf n m ss p → LastOf n m (set ss i (record s { waits = false })) p
last_set ss i s n m p read last =
    record {
      later = λ j t there past lt. elim (changed_get ss i j s t read there) [
        | inl same ↦ (λ e. last.later i s read (omega (arith, past, same.0)) (omega (arith, lt, same.0)) (ap (λ u. u.element) (sym same.1) ∙ e))
        | inr other ↦ last.later j t other.1 past lt
      ];
      here = λ q at. (let h = last.here q at in (
        h.0,
        elim (cases_eq q i) [
          | inl same ↦ (
            record s { waits = false },
            ap (slice_get (set ss i (record s { waits = false }))) same ∙ set_found ss i s (record s { waits = false }) read,
            (let e : Some s ≡ Some h.1.0 = sym read ∙ ap (slice_get ss) (sym same) ∙ h.1.1 in (let k : s ≡ h.1.0 = cc e in ap (λ u. u.element) k ∙ h.1.2)),
          )
          | inr ne ↦ (h.1.0, set_other ss i q (record s { waits = false }) (λ e. ne (sym e)) ∙ h.1.1, h.1.2)
        ],
      ));
    }

linked_take : (ss : List Slot) (i : ℕ) (s : Slot) → AreLinked ss → slice_get ss i ≡ Some s
    → ((j : ℕ) (t : Slot) → slice_get ss j ≡ Some t → j < i → t.waits ≡ true → t.element ≢ s.element)
    → AreLinked (set ss i (record s { waits = false }))
linked_take ss i s are read first =
    record {
      linked = λ j t there. elim (changed_get ss i j s t read there) [
        | inl same ↦ subst (λ u. LastOf u.element j (set ss i (record s { waits = false })) u.previous) (sym same.1)
            (subst (λ m. LastOf s.element m (set ss i (record s { waits = false })) s.previous) (sym same.0)
            (last_set ss i s s.element i s.previous read (are.linked i s read)))
        | inr other ↦ last_set ss i s t.element j t.previous read (are.linked j t other.1)
      ];
      in_order = λ j k t u one two lt same still. elim (changed_get ss i j s t read one) [
        | inl here ↦ absurd (both_ways _ (ap (λ v. v.waits) here.1) still)
        | inr other ↦ elim (changed_get ss i k s u read two) [
          | inl there ↦ absurd (first j t other.1 (omega (arith, lt, there.0)) still (same ∙ ap (λ v. v.element) there.1))
          | inr another ↦ are.in_order j k t u other.1 another.1 lt same still
        ]
      ];
    }

lower_none : (ss : List Slot) (i : ℕ) (s : Slot) → is_first (suc i) s.element (waiting_from 1 ss) ≡ true → (j : ℕ) (t : Slot) → slice_get ss j ≡ Some t → j < i
    → t.waits ≡ true → t.element ≢ s.element
lower_none ss i s first j t read lt still = λ e. both_ways _ (first_false 1 i j (suc i) s.element ss t read lt still e (omega arith)) first

pub taken : (ss : List Slot) (last : BTreeMap ℕ ℕ) (k : ℕ) (d : Slot) → AreKnown ss last → waits_at ss k ≡ true → d ≡ get_or ss (k - 1) d
    → leads (entry_of k (waiting_from 1 ss)) (waiting_from 1 ss) ≡ true
    → AreKnown (set ss (k - 1) (record d { waits = false })) last
    × (waiting_from 1 (set ss (k - 1) (record d { waits = false })) ≡ without k (waiting_from 1 ss))
taken ss last k d are waits read first =
    let t = there ss k waits in
    let back : k - 1 ≡ t.place = omega (arith, t.number) in
    let here : slice_get ss (k - 1) ≡ Some d = slot_at ss (k - 1) d (within ss k waits).1 read in
    let still : d.waits ≡ true = (let e : Some d ≡ Some t.slot = sym here ∙ ap (slice_get ss) back
    ∙ t.read in (let g : d ≡ t.slot = cc e in ap (λ u. u.waits) g ∙ t.still)) in
    let number : k ≡ suc (k - 1) = omega (arith, t.number) in
    let entry : entry_of k (waiting_from 1 ss) ≡ Some (entry_of_slot k d) =
    entry_at 1 (k - 1) k ss d here (omega (arith, t.number)) ∙ ap (λ b. found b (entry_of_slot k d)) still in
    let leading : is_first (suc (k - 1)) d.element (waiting_from 1 ss) ≡ true =
    ap (λ n. is_first n d.element (waiting_from 1 ss)) (sym number) ∙ ap (λ o. leads o (waiting_from 1 ss)) (sym entry) ∙ first in (
      record {
        links = linked_take ss (k - 1) d are.links here (lower_none ss (k - 1) d leading);
        lasts = λ n. subst (λ m. LastOf n m (set ss (k - 1) (record d { waits = false })) (count_at (get nat_cmp last) n))
            (sym (length-set ss (k - 1) (record d { waits = false })))
            (last_set ss (k - 1) d n (length ss) (count_at (get nat_cmp last) n) here (are.lasts n));
      },
      sym (without_at 1 (k - 1) k ss d here still (omega (arith, t.number))),
    )

-- one more is enqueued

pub apart : (k q : ℕ) → k ≢ q → is_at (nat_cmp k) q ≡ false
apart k q ne = search rules

pub enqueued_known : (ss : List Slot) (old new : BTreeMap ℕ ℕ) (s : Slot) (k n : ℕ) → k ≡ s.element → AreKnown ss old
    → s.previous ≡ count_at (get nat_cmp old) s.element → s.waits ≡ true
    → get nat_cmp new k ≡ Some n → n ≡ suc (length ss) → ((q : ℕ) → is_at (nat_cmp k) q ≡ false → get nat_cmp new q ≡ get nat_cmp old q)
    → AreKnown (ss ++ s ∷ []) new
enqueued_known ss old new s k n key are before waits here at others =
    record {
      links = linked_push ss s are.links (subst (LastOf s.element (length ss) ss) (sym before) (are.lasts s.element)) waits;
      lasts = λ m. elim (cases_eq k m) [
        | inl same ↦ subst (LastOf m (length (ss ++ s ∷ [])) (ss ++ s ∷ [])) (sym (ap (λ o. unwrap_or o 0) (ap (get nat_cmp new) (sym same) ∙ here) ∙ at))
            (subst (λ e. LastOf e (length (ss ++ s ∷ [])) (ss ++ s ∷ []) (suc (length ss))) (sym key ∙ same) (last_same ss s))
        | inr ne ↦ subst (LastOf m (length (ss ++ s ∷ [])) (ss ++ s ∷ [])) (sym (ap (λ o. unwrap_or o 0) (others m (apart k m ne))))
            (last_other ss s m (count_at (get nat_cmp old) m) (λ e. ne (key ∙ e)) (are.lasts m))
      ];
    }

pub waiting_same : (n m : ℕ) (es fs : List Entry) → n ≡ m → es ≡ fs
    → (let w : Waiting = record { numbers = n; entries = es } in w) ≡ record { numbers = m; entries = fs }
waiting_same n m es fs a b = ap (λ k. (let w : Waiting = record { numbers = k; entries = es } in w)) a
    ∙ ap (λ xs. (let w : Waiting = record { numbers = m; entries = xs } in w)) b

-- what is found at a number that waits, and at one that does not
pub entry_there : (ss : List Slot) (k : ℕ) (d : Slot) → waits_at ss k ≡ true → d ≡ get_or ss (k - 1) d
    → entry_of k (waiting_from 1 ss) ≡ Some (entry_of_slot k d)
entry_there ss k d waits read =
    let t = there ss k waits in
    let back : k - 1 ≡ t.place = omega (arith, t.number) in
    let here : slice_get ss (k - 1) ≡ Some d = slot_at ss (k - 1) d (within ss k waits).1 read in
    let still : d.waits ≡ true = (let e : Some d ≡ Some t.slot = sym here ∙ ap (slice_get ss) back
    ∙ t.read in (let g : d ≡ t.slot = cc e in ap (λ u. u.waits) g ∙ t.still)) in
    entry_at 1 (k - 1) k ss d here (omega (arith, t.number)) ∙ ap (λ b. found b (entry_of_slot k d)) still

none_of_some : (o : Option Entry) → is_some o ≡ false → o ≡ None
none_of_some None absent = refl
none_of_some (Some w) absent = absurd (cc absent)

pub entry_absent : (ss : List Slot) (k : ℕ) → waits_at ss k ≡ false → entry_of k (waiting_from 1 ss) ≡ None
entry_absent ss k absent = none_of_some (entry_of k (waiting_from 1 ss)) (sym (waits_some ss k) ∙ absent)
