-- Lists that nodes are taken out of.
use Rattle.std.proofs.Common.{◌≡◌, ◌≢◌, ℕ, zero, suc, ◌+◌, ◌-◌, ◌<◌, ◌==◌, Bool, true, false, cond, List, [], ◌∷◌, take, length, get_or, Some, None, refl, sym}
use Rattle.std.proofs.Common.{ap, ◌∙◌, subst, arith, inl, inr}
use Rattle.std.specs.Prelude.{filter, slice_get, not, is_some, ◌||◌, ◌&&◌}
use Rattle.std.proofs.lemmas.Bool.{cases_eq}
use Rattle.std.proofs.lemmas.Bool.Decides.{nat_tests}
use Rattle.std.proofs.lemmas.List.Elements.{filter_agree}
use Rattle.std.proofs.lemmas.List.Folds.{list_any_more}
use Rattle.std.proofs.lemmas.Option.{get_or_from_slice_get, slice_get_within}
use Rattle.node_trees.specs.Trees.{is_number}
use Rattle.form_controls.specs.declared.change.Change.{Change}
use Rattle.owner_rows.specs.OwnerRow.{OwnerRow, is_other, row_in, row_of}
use Rattle.form_owner.specs.Moves.{is_moving, is_moved_by, stays}
use Rattle.form_owner.specs.Reading.{is_owned_in}
use Rattle.form_owner.specs.Writing.{Written}

-- lists that are filtered twice

pub filter-filter : (p q : ℕ → Bool) (xs : List ℕ) → filter p (filter q xs) ≡ filter (λ m. p m && q m) xs
filter-filter p q [] = refl
filter-filter p q (x ∷ xs) = by_test (filter-filter p q xs) (p x) refl (q x)
  where
    by_test : filter p (filter q xs) ≡ filter (λ m. p m && q m) xs → (b : Bool) → p x ≡ b → (c : Bool)
        → filter p (cond c (x ∷ filter q xs) (filter q xs)) ≡ cond (b && c) (x ∷ filter (λ m. p m && q m) xs) (filter (λ m. p m && q m) xs)
    by_test more true e true = ap (λ b. cond b (x ∷ filter p (filter q xs)) (filter p (filter q xs))) e ∙ ap (λ v. x ∷ v) more
    by_test more false e true = ap (λ b. cond b (x ∷ filter p (filter q xs)) (filter p (filter q xs))) e ∙ more
    by_test more true e false = more
    by_test more false e false = more

pub filter-swap : (p q : ℕ → Bool) (xs : List ℕ) → filter p (filter q xs) ≡ filter q (filter p xs)
filter-swap p q xs = filter-filter p q xs ∙ filter_agree (λ m. p m && q m) (λ m. q m && p m) (λ m. swap (p m) (q m)) xs ∙ sym (filter-filter q p xs)
  where
    swap : (b c : Bool) → (b && c) ≡ (c && b)
    swap true true = refl
    swap true false = refl
    swap false true = refl
    swap false false = refl

pub filter-all : (p : ℕ → Bool) (xs : List ℕ) → ((m : ℕ) → p m ≡ true) → filter p xs ≡ xs
filter-all p [] passes = refl
filter-all p (x ∷ xs) passes = ap (λ b. cond b (x ∷ filter p xs) (filter p xs)) (passes x) ∙ ap (λ v. x ∷ v) (filter-all p xs passes)

-- who fails a test is none of those that pass it
without-failing : (p : ℕ → Bool) (n : ℕ) (xs : List ℕ) → p n ≡ false → filter (is_other n) (filter p xs) ≡ filter p xs
without-failing p n xs fails = filter-filter (is_other n) p xs ∙ filter_agree (λ m. is_other n m && p m) p (λ m. same m (p m) refl) xs
  where
    same : (m : ℕ) (b : Bool) → p m ≡ b → (is_other n m && b) ≡ b
    same m true e = elim (cases_eq m n) [
      | inl is ↦ absurd (let no : p m ≡ false = ap p is ∙ fails in cc)
      | inr ne ↦ grind (arith, nat_tests)
    ]
    same m false e = by_other (is_other n m)
      where
        by_other : (c : Bool) → (c && false) ≡ false
        by_other true = refl
        by_other false = refl

-- rows

pub indexed : (rows : List OwnerRow) (k : ℕ) (d : OwnerRow) → k < length rows → get_or rows k d ≡ row_in rows k
indexed [] k d lt = absurd (omega arith)
indexed (r ∷ rows) zero d lt = refl
indexed (r ∷ rows) (suc k) d lt = indexed rows k d (omega arith)

-- a node leaves the list of its form

module _ (rows : List OwnerRow) (owned : (i : ℕ) → filter (is_owned_in rows (i + 1)) (row_in rows i).controls ≡ (row_in rows i).controls) (n : ℕ) where
  -- another form does not list it
  elsewhere : (i : ℕ) → is_owned_in rows (i + 1) n ≡ false → row_in rows i ≡ record (row_in rows i) { controls = filter (is_other n) (row_in rows i).controls }
  elsewhere i out =
      let same : filter (is_other n) (row_in rows i).controls ≡ (row_in rows i).controls =
      ap (filter (is_other n)) (sym (owned i)) ∙ without-failing (is_owned_in rows (i + 1)) n (row_in rows i).controls out ∙ owned i in
      ap (λ v. record (row_in rows i) { controls = v }) (sym same)

  pub left-none : (row_of rows n).owner ≡ None → (i : ℕ) → row_in rows i ≡ record (row_in rows i) { controls = filter (is_other n) (row_in rows i).controls }
  left-none e i = elsewhere i (ap (λ o. is_number o (i + 1)) e)

  pub left-form : (form : ℕ) (new : List OwnerRow) → (row_of rows n).owner ≡ Some form
      → Written rows new (form - 1) (record (row_of rows form) { controls = filter (is_other n) (row_of rows form).controls }) →
      (i : ℕ) → row_in new i ≡ record (row_in rows i) { controls = filter (is_other n) (row_in rows i).controls }
  left-form form new e w i = elim (cases_eq i (form - 1)) [
    | inl same ↦ subst (λ j. row_in new j ≡ record (row_in rows j) { controls = filter (is_other n) (row_in rows j).controls }) (sym same) w.here
    | inr ne ↦
        let other : form ≢ i + 1 = λ is. ne (omega arith) in
        let out : is_number (Some form) (i + 1) ≡ false = grind (arith, nat_tests) in
        w.others i ne ∙ elsewhere i (ap (λ o. is_number o (i + 1)) e ∙ out)
  ]

-- where it does not move, it stays
pub left-not : (moves : Bool) (n : ℕ) (old : List OwnerRow) → moves ≡ false → (i : ℕ)
    → row_in old i ≡ record (row_in old i) { controls = filter (λ m. not (moves && n == m)) (row_in old i).controls }
left-not moves n old t i = ap (λ v. record (row_in old i) { controls = v })
    (sym (filter-all (λ m. not (moves && n == m)) (row_in old i).controls (λ m. ap (λ b. not (b && n == m)) t)))

-- one change after another

pub moved-more : (cs : List Change) (k : ℕ) (c : Change) (m : ℕ) → slice_get cs k ≡ Some c
    → is_moved_by (take (k + 1) cs) m ≡ (is_moved_by (take k cs) m || is_moving m c)
moved-more cs k c m at = list_any_more (is_moving m) cs k c (slice_get_within cs k c at)
    ∙ ap (λ d. is_moved_by (take k cs) m || is_moving m d) (get_or_from_slice_get cs k c c at)

module _ (start mid : List OwnerRow) (cs : List Change) (k : ℕ) (so_far : (i : ℕ)
    → row_in mid i ≡ record (row_in start i) { controls = filter (stays (take k cs)) (row_in start i).controls }) where
  pub left-owned : ((i : ℕ) → filter (is_owned_in start (i + 1)) (row_in start i).controls ≡ (row_in start i).controls) → (i : ℕ)
      → filter (is_owned_in mid (i + 1)) (row_in mid i).controls ≡ (row_in mid i).controls
  left-owned owned i =
      filter_agree (is_owned_in mid (i + 1)) (is_owned_in start (i + 1)) (λ m. ap (λ (r : OwnerRow). is_number r.owner (i + 1)) (so_far (m - 1)))
      (row_in mid i).controls
      ∙ ap (λ (r : OwnerRow). filter (is_owned_in start (i + 1)) r.controls) (so_far i)
      ∙ filter-swap (is_owned_in start (i + 1)) (stays (take k cs)) (row_in start i).controls
      ∙ ap (filter (stays (take k cs))) (owned i)
      ∙ sym (ap (λ (r : OwnerRow). r.controls) (so_far i))

  pub left-next : (c : Change) (new : List OwnerRow) (moves : Bool) → slice_get cs k ≡ Some c → moves ≡ is_some c.owner →
      ((i : ℕ) → row_in new i ≡ record (row_in mid i) { controls = filter (λ m. not (moves && c.node == m)) (row_in mid i).controls }) →
      (i : ℕ) → row_in new i ≡ record (row_in start i) { controls = filter (stays (take (k + 1) cs)) (row_in start i).controls }
  left-next c new moves at is left i =
      left i
      ∙ ap (λ (r : OwnerRow). record r { controls = filter (λ m. not (moves && c.node == m)) r.controls }) (so_far i)
      ∙ ap (λ v. record (row_in start i) { controls = v })
      (filter-filter (λ m. not (moves && c.node == m)) (stays (take k cs)) (row_in start i).controls
      ∙ filter_agree (λ m. not (moves && c.node == m) && stays (take k cs) m) (stays (take (k + 1) cs)) both (row_in start i).controls)
    where
      by_test : (a b : Bool) → (not a && not b) ≡ not (b || a)
      by_test true true = refl
      by_test true false = refl
      by_test false true = refl
      by_test false false = refl

      both : (m : ℕ) → (not (moves && c.node == m) && stays (take k cs) m) ≡ stays (take (k + 1) cs) m
      both m =
          by_test (moves && c.node == m) (is_moved_by (take k cs) m)
          ∙ ap (λ b. not (is_moved_by (take k cs) m || (b && c.node == m))) is
          ∙ sym (ap not (moved-more cs k c m at))
