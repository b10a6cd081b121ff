-- Rows that changes are written into.
use Rattle.std.proofs.Common.{◌≡◌, ◌≢◌, ◌+◌, ◌-◌, ◌<◌, ◌≤◌, ◌==◌, ℕ, zero, suc, Bool, true, false, cond, List, [], ◌∷◌, ◌++◌, take, Option, Some, None, refl}
use Rattle.std.proofs.Common.{sym, ap, ◌∙◌, subst, arith, inl, inr}
use Rattle.std.specs.Prelude.{filter, map, slice_get, unwrap_or, nat_eq, is_some, ◌||◌}
use Rattle.std.specs.Bool.{beq}
use Rattle.std.specs.List.{range_with_len}
use Rattle.std.specs.Option.{option_eq}
use Rattle.std.proofs.lemmas.Bool.{cases_eq, eqb-true, eq-eqb, or_left, or_right}
use Rattle.std.proofs.lemmas.Bool.Decides.{nat_tests}
use Rattle.std.proofs.lemmas.List.{take_more}
use Rattle.std.proofs.lemmas.Option.{get_or_from_slice_get, slice_get_within}
use Rattle.node_trees.specs.Trees.{Trees}
use Rattle.node_trees.specs.Paths.{is_among}
use Rattle.form_controls.specs.declared.change.Change.{Change}
use Rattle.form_controls.specs.Changes.{where_new, is_change}
use Rattle.owner_reading.specs.Owners.{owner_with}
use Rattle.above_reading.specs.Disabled.{disabled_with}
use Rattle.owner_rows.specs.OwnerRow.{OwnerRow, row_in, row_of}
use Rattle.form_owner.specs.Reading.{change_read, changes_read}
use Rattle.form_owner.specs.Writing.{Written, with_told, with_changes}

-- one more number
pub range-more : (a n : ℕ) → range_with_len a (n + 1) ≡ range_with_len a n ++ (a + n) ∷ []
range-more a zero = grind arith
range-more a (suc n) = grind (arith, range-more (a + 1) n, range-more (suc a) n)

-- changes that are written one after another

with_changes-append : (cs : List Change) (c : Change) (i : ℕ) (row : OwnerRow)
    → with_changes (cs ++ c ∷ []) i row ≡ cond (c.node - 1 == i) (with_told c.owner c.disabled (with_changes cs i row)) (with_changes cs i row)
with_changes-append [] c i row = refl
with_changes-append (d ∷ cs) c i row = with_changes-append cs c i (cond (d.node - 1 == i) (with_told d.owner d.disabled row) row)

pub written-next : (cs : List Change) (c : Change) (k : ℕ) (start old new : List OwnerRow) → slice_get cs k ≡ Some c →
    ((i : ℕ) → row_in old i ≡ with_changes (take k cs) i (row_in start i)) →
    Written old new (c.node - 1) (with_told c.owner c.disabled (row_of old c.node)) →
    (i : ℕ) → row_in new i ≡ with_changes (take (k + 1) cs) i (row_in start i)
written-next cs c k start old new at so_far w i =
    let more : take (k + 1) cs ≡ take k cs ++ c ∷ [] =
    take_more cs k c (slice_get_within cs k c at) ∙ ap (λ d. take k cs ++ d ∷ []) (get_or_from_slice_get cs k c c at) in
    elim (cases_eq (c.node - 1) i) [
      | inl e ↦ by_place e more
      | inr ne ↦ w.others i (λ e. ne (sym e)) ∙ so_far i
          ∙ sym (ap (λ v. with_changes v i (row_in start i)) more ∙ with_changes-append (take k cs) c i (row_in start i) ∙ other ne)
    ]
  where
    other : c.node - 1 ≢ i → cond (c.node - 1 == i) (with_told c.owner c.disabled (with_changes (take k cs) i (row_in start i)))
        (with_changes (take k cs) i (row_in start i)) ≡ with_changes (take k cs) i (row_in start i)
    other ne = grind (arith, nat_tests)

    same : c.node - 1 ≡ i → cond (c.node - 1 == i) (with_told c.owner c.disabled (with_changes (take k cs) i (row_in start i)))
        (with_changes (take k cs) i (row_in start i)) ≡ with_told c.owner c.disabled (with_changes (take k cs) i (row_in start i))
    same e = grind (arith, nat_tests)

    by_place : c.node - 1 ≡ i → take (k + 1) cs ≡ take k cs ++ c ∷ [] → row_in new i ≡ with_changes (take (k + 1) cs) i (row_in start i)
    by_place e more =
        subst (λ p. row_in new p ≡ with_told c.owner c.disabled (row_in old p)) e w.here
        ∙ ap (with_told c.owner c.disabled) (so_far i)
        ∙ sym (ap (λ v. with_changes v i (row_in start i)) more ∙ with_changes-append (take k cs) c i (row_in start i) ∙ same e)

-- who is a form-associated custom element stays
pub associated-stays : (cs : List Change) (i : ℕ) (row : OwnerRow) → (with_changes cs i row).associated ≡ row.associated
associated-stays [] i row = refl
associated-stays (c ∷ cs) i row = associated-stays cs i (cond (c.node - 1 == i) (with_told c.owner c.disabled row) row) ∙ by_test (c.node - 1 == i)
  where
    by_test : (b : Bool) → (cond b (with_told c.owner c.disabled row) row).associated ≡ row.associated
    by_test true = refl
    by_test false = refl

pub seen-stays : (cs : List Change) (i : ℕ) (row : OwnerRow) → (with_changes cs i row).seen ≡ row.seen
seen-stays [] i row = refl
seen-stays (c ∷ cs) i row = seen-stays cs i (cond (c.node - 1 == i) (with_told c.owner c.disabled row) row) ∙ by_test (c.node - 1 == i)
  where
    by_test : (b : Bool) → (cond b (with_told c.owner c.disabled row) row).seen ≡ row.seen
    by_test true = refl
    by_test false = refl

pub controls-stay : (cs : List Change) (i : ℕ) (row : OwnerRow) → (with_changes cs i row).controls ≡ row.controls
controls-stay [] i row = refl
controls-stay (c ∷ cs) i row = controls-stay cs i (cond (c.node - 1 == i) (with_told c.owner c.disabled row) row) ∙ by_test (c.node - 1 == i)
  where
    by_test : (b : Bool) → (cond b (with_told c.owner c.disabled row) row).controls ≡ row.controls
    by_test true = refl
    by_test false = refl

-- the changes that were read are written

taken-owner : (old new : Option ℕ) → unwrap_or (where_new (option_eq nat_eq) old new) old ≡ new
taken-owner None None = refl
taken-owner None (Some y) = refl
taken-owner (Some x) None = refl
taken-owner (Some x) (Some y) = by_test (nat_eq x y) refl
  where
    by_test : (b : Bool) → nat_eq x y ≡ b → unwrap_or (cond b None (Some (Some y))) (Some x) ≡ Some y
    by_test true e = ap Some (eqb-true x y e)
    by_test false e = refl

taken-state : (old new : Bool) → unwrap_or (where_new beq old new) old ≡ new
taken-state true true = refl
taken-state true false = refl
taken-state false true = refl
taken-state false false = refl

-- what says nothing leaves the row
silent : (c : Change) (row : OwnerRow) → cond (is_change c) (with_told c.owner c.disabled row) row ≡ with_told c.owner c.disabled row
silent c row = by_parts c.owner c.disabled
  where
    by_parts : (o : Option (Option ℕ)) (d : Option Bool) → cond (is_some o || is_some d) (with_told o d row) row ≡ with_told o d row
    by_parts None None = refl
    by_parts None (Some d) = refl
    by_parts (Some o) d = refl

module _ (f : Trees) (rows : List OwnerRow) (i : ℕ) where
  abbrev told : ℕ → OwnerRow → OwnerRow
  told n row = with_told (change_read f rows n).owner (change_read f rows n).disabled row

  one-more : (n : ℕ) (ns : List ℕ) (row : OwnerRow)
      → with_changes (changes_read f rows (n ∷ ns)) i row
      ≡ with_changes (changes_read f rows ns) i (cond (n - 1 == i) (cond (is_change (change_read f rows n)) (told n row) row) row)
  one-more n ns row = by_test (is_change (change_read f rows n))
    where
      by_test : (b : Bool) → with_changes
          (map (change_read f rows) (cond b (n ∷ filter (λ m. is_change (change_read f rows m)) ns) (filter (λ m. is_change (change_read f rows m)) ns))) i row
          ≡ with_changes (changes_read f rows ns) i (cond (n - 1 == i) (cond b (told n row) row) row)
      by_test true = refl
      by_test false = ap (with_changes (changes_read f rows ns) i) (either (n - 1 == i))
        where
          either : (b : Bool) → row ≡ cond b row row
          either true = refl
          either false = refl

  past : (a n : ℕ) (row : OwnerRow) → i + 1 < a → with_changes (changes_read f rows (range_with_len a n)) i row ≡ row
  past a zero row lt = refl
  past a (suc n) row lt =
      one-more a (range_with_len (a + 1) n) row
      ∙ past (a + 1) n (cond (a - 1 == i) (cond (is_change (change_read f rows a)) (told a row) row) row) (omega arith)
      ∙ grind (arith, nat_tests)

  -- the row as it is read
  abbrev pub read_row : OwnerRow
  read_row = record (row_in rows i) { owner = owner_with f (i + 1) (row_in rows i).associated; disabled = disabled_with f (i + 1) (row_in rows i).associated }

  told-here : told (i + 1) (row_in rows i) ≡ read_row
  told-here =
      let same : (i + 1) - 1 ≡ i = omega arith in
      rw (
        same,
        taken-owner (row_in rows i).owner (owner_with f (i + 1) (row_in rows i).associated),
        taken-state (row_in rows i).disabled (disabled_with f (i + 1) (row_in rows i).associated),
      ) refl

  pub reached : (a n : ℕ) → 1 ≤ a → a ≤ i + 1 → i + 1 < a + n → with_changes (changes_read f rows (range_with_len a n)) i (row_in rows i) ≡ read_row
  reached a zero low here lt = absurd (omega arith)
  reached a (suc n) low here lt = elim (cases_eq a (i + 1)) [
    | inl e ↦
        one-more a (range_with_len (a + 1) n) (row_in rows i)
        ∙ past (a + 1) n (cond (a - 1 == i) (cond (is_change (change_read f rows a)) (told a (row_in rows i)) (row_in rows i)) (row_in rows i)) (omega arith)
        ∙ at e
    | inr ne ↦
        one-more a (range_with_len (a + 1) n) (row_in rows i)
        ∙ ap (with_changes (changes_read f rows (range_with_len (a + 1) n)) i) (before ne)
        ∙ reached (a + 1) n (omega arith) (omega arith) (omega arith)
  ]
    where
      before : a ≢ i + 1 → cond (a - 1 == i) (cond (is_change (change_read f rows a)) (told a (row_in rows i)) (row_in rows i)) (row_in rows i) ≡ row_in rows i
      before ne = let other : a - 1 ≢ i = λ e. ne (omega arith) in grind (arith, nat_tests)

      at : a ≡ i + 1 → cond (a - 1 == i) (cond (is_change (change_read f rows a)) (told a (row_in rows i)) (row_in rows i)) (row_in rows i) ≡ read_row
      at e =
          let same : a - 1 ≡ i = omega arith in
          let here : cond (a - 1 == i) (cond (is_change (change_read f rows a)) (told a (row_in rows i)) (row_in rows i)) (row_in rows i)
          ≡ cond (is_change (change_read f rows a)) (told a (row_in rows i)) (row_in rows i) = grind (arith, nat_tests) in
          here ∙ silent (change_read f rows a) (row_in rows i) ∙ ap (λ n. told n (row_in rows i)) e ∙ told-here

-- a test that says the same of each member finds the same

pub filter-members : (p q : ℕ → Bool) (xs : List ℕ) → ((x : ℕ) → is_among x xs ≡ true → p x ≡ q x) → filter p xs ≡ filter q xs
filter-members p q [] same = refl
filter-members p q (x ∷ xs) same =
    by_test (filter-members p q xs (λ y h. same y (or_right (x == y) (is_among y xs) h))) (same x (or_left (x == x) (is_among x xs) (eq-eqb x x refl)))
  where
    by_test : filter p xs ≡ filter q xs → p x ≡ q x → cond (p x) (x ∷ filter p xs) (filter p xs) ≡ cond (q x) (x ∷ filter q xs) (filter q xs)
    by_test more e = ap (λ v. cond v (x ∷ filter p xs) (filter p xs)) e ∙ ap (λ v. cond (q x) (x ∷ v) v) more
