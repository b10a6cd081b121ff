-- Rows that were read off the trees anew stand for them, and what was told is what differs.
use Rattle.std.proofs.Common.{◌≡◌, ℕ, zero, suc, ◌+◌, ◌-◌, ◌≤◌, Bool, true, false, cond, List, ◌∷◌, length, refl, sym, ap, ◌∙◌, subst, arith, inl, inr}
use Rattle.std.specs.Prelude.{filter, map, unwrap_or}
use Rattle.std.specs.List.{range_with_len}
use Rattle.std.proofs.lemmas.Bool.{cases_lt}
use Rattle.std.proofs.lemmas.Option.{slice_get_past}
use Rattle.node_trees.specs.Trees.{Trees, is_number}
use Rattle.node_trees.specs.Nodes.{IsNode, size, IsTidy}
use Rattle.node_trees.specs.Orders.{tree_order_of}
use Rattle.node_trees.specs.Paths.{is_among, root_at}
use Rattle.tree_laws.proofs.InOrder.{member_is_node}
use Rattle.form_controls.specs.Owners.{Forms, is_associated, form_owner, is_owned_by, controls_of}
use Rattle.form_controls.specs.Disabled.{is_disabled}
use Rattle.form_controls.specs.Changes.{form_change, form_changes, is_change, numbers}
use Rattle.ordered_tables.specs.Held.{is_held, is_known}
use Rattle.owner_rows.specs.OwnerRow.{OwnerRow, blank_row, row_in, row_of}
use Rattle.owner_rows.specs.Attributes.{seen_at}
use Rattle.form_owner.specs.Attributes.{is_naming}
use Rattle.form_owner.specs.Candidates.{Covers}
use Rattle.form_owner.specs.OwnerRows.{OwnerRows}
use Rattle.owner_reading.specs.Owners.{owner_with}
use Rattle.above_reading.specs.Disabled.{disabled_with}
use Rattle.form_owner.specs.Looks.{AreKept, AreNotedBy, AreRight, KnowsBy, known_by}
use Rattle.form_owner.specs.Reading.{change_read, changes_read, is_owned_in, owned_in}
use Rattle.form_owner.specs.Stands.{KnowsAssociated, Stands}
use Rattle.form_owner.specs.declared.looks.Look.{Look}
use Rattle.form_owner.specs.declared.touch.Touch.{Touch}
use Rattle.form_owner.specs.Touches.{IsTouched, after_touch}
use Rattle.form_owner.specs.Writing.{AreNoted, AreRenewed, AreSeenBy, ListsStood, Noted, unseen}
use Rattle.form_owner.proofs.Nodes.{past-node, not-a-form, no-owner, not-disabled, no-controls}
use Rattle.form_owner.proofs.Looking.{looks-seen}
use Rattle.form_owner.proofs.Touched.{known, noted-keeps, size-stays}
use Rattle.form_owner.proofs.Touching.{order-stays, tidy-before}
use Rattle.form_owner.proofs.Sights.{noted-before, sees-now}
use Rattle.form_owner.proofs.Standing.{lists-stand}
use Rattle.form_owner.proofs.Rows.{filter-members}

-- the rows stand

module _ (f : Forms) (tidy : IsTidy f.forest) (old new : List OwnerRow) (long : length new ≡ size f.forest) (knows : KnowsAssociated old f)
    (are : AreRenewed f.forest old new) where
  row-past : (i : ℕ) → size f.forest ≤ i → row_in new i ≡ blank_row
  row-past i past = ap (λ v. unwrap_or v blank_row) (slice_get_past new i (omega (arith, past, long)))

  owner-at : (i : ℕ) → (row_in new i).owner ≡ form_owner f (i + 1)
  owner-at i = elim (cases_lt i (size f.forest)) [
    | inl lt ↦ are.owner i lt ∙ ap (owner_with f.forest (i + 1)) (knows.flags i)
    | inr past ↦ ap (λ (r : OwnerRow). r.owner) (row-past i past) ∙ sym (no-owner f tidy knows.nodes (i + 1) (past-node f.forest i past))
  ]

  disabled-at : (i : ℕ) → (row_in new i).disabled ≡ is_disabled f (i + 1)
  disabled-at i = elim (cases_lt i (size f.forest)) [
    | inl lt ↦ are.disabled i lt ∙ ap (disabled_with f.forest (i + 1)) (knows.flags i)
    | inr past ↦ ap (λ (r : OwnerRow). r.disabled) (row-past i past) ∙ sym (not-disabled f tidy knows.nodes (i + 1) (past-node f.forest i past))
  ]

  owned-now : (n : ℕ) → owned_in new f.forest n ≡ controls_of f n
  owned-now n = filter-members (is_owned_in new n) (is_owned_by f n) (tree_order_of f.forest (root_at f.forest n)) (λ m h. ap (λ o. is_number o n) (member m h))
    where
      member : (m : ℕ) → is_among m (tree_order_of f.forest (root_at f.forest n)) ≡ true → (row_of new m).owner ≡ form_owner f m
      member m h =
          let low = (member_is_node f.forest (root_at f.forest n) m tidy h).low in
          let same : (m - 1) + 1 ≡ m = omega arith in
          owner-at (m - 1) ∙ ap (form_owner f) same

  controls-at : (i : ℕ) → (row_in new i).controls ≡ controls_of f (i + 1)
  controls-at i = elim (cases_lt i (size f.forest)) [
    | inl lt ↦ are.controls i lt ∙ owned-now (i + 1)
    | inr past ↦ ap (λ (r : OwnerRow). r.controls) (row-past i past)
        ∙ sym (no-controls f (i + 1) (not-a-form f tidy knows.nodes (i + 1) (past-node f.forest i past)))
  ]

  pub stands-now : (table : OwnerRows) → length table.rows ≤ size f.forest → ((i : ℕ) → unseen (row_in table.rows i) ≡ unseen (row_in new i))
      → ((i : ℕ) → (row_in table.rows i).seen ≡ seen_at f.forest (i + 1)) → ((id : List ℕ) (n : ℕ) → is_held table.named id n ≡ is_naming f.forest id n)
      → AreRight f.forest table.rows (is_known table.named) table.looks → Stands table f
  stands-now table within at seen named looks = record {
    within = within;
    associated = record { flags = λ i. ap (λ (r : OwnerRow). r.associated) (at i) ∙ are.associated i ∙ knows.flags i; nodes = knows.nodes };
    owner = λ i. ap (λ (r : OwnerRow). r.owner) (at i) ∙ owner-at i;
    disabled = λ i. ap (λ (r : OwnerRow). r.disabled) (at i) ∙ disabled-at i;
    controls = λ i. ap (λ (r : OwnerRow). r.controls) (at i) ∙ controls-at i;
    seen = seen;
    named = named;
    looks = looks;
  }

-- what was told

made-same : {Y : Type 0} (f g : ℕ → Y) (says : Y → Bool) (a n : ℕ) → ((k : ℕ) → a ≤ k → f k ≡ g k)
    → map f (filter (λ k. says (f k)) (range_with_len a n)) ≡ map g (filter (λ k. says (g k)) (range_with_len a n))
made-same f g says a zero same = refl
made-same f g says a (suc n) same = by_test (made-same f g says (a + 1) n (λ k le. same k (omega arith))) (same a (omega arith)) (says (g a)) refl
  where
    by_test : map f (filter (λ k. says (f k)) (range_with_len (a + 1) n)) ≡ map g (filter (λ k. says (g k)) (range_with_len (a + 1) n)) → f a ≡ g a
        → (b : Bool) → says (g a) ≡ b →
        map f (cond (says (f a)) (a ∷ filter (λ k. says (f k)) (range_with_len (a + 1) n)) (filter (λ k. says (f k)) (range_with_len (a + 1) n)))
        ≡ map g (cond (says (g a)) (a ∷ filter (λ k. says (g k)) (range_with_len (a + 1) n)) (filter (λ k. says (g k)) (range_with_len (a + 1) n)))
    by_test more here true e = let t : says (f a) ≡ true = ap says here ∙ e in rw (t, e) cc
    by_test more here false e = let t : says (f a) ≡ false = ap says here ∙ e in rw (t, e) more

-- rows with the owners and states of before, and who is a form-associated custom element now, tell what differs

module _ (before f : Forms) (rows : List OwnerRow) (knows : KnowsAssociated rows f) (owners : (i : ℕ) → (row_in rows i).owner ≡ form_owner before (i + 1))
    (states : (i : ℕ) → (row_in rows i).disabled ≡ is_disabled before (i + 1)) where
  told-of : (n : ℕ) → 1 ≤ n → change_read f.forest rows n ≡ form_change before f n
  told-of n low =
      let e : (n - 1) + 1 ≡ n = omega arith in
      let a : (row_of rows n).owner ≡ form_owner before n = owners (n - 1) ∙ ap (form_owner before) e in
      let b : (row_of rows n).disabled ≡ is_disabled before n = states (n - 1) ∙ ap (is_disabled before) e in
      let c : (row_of rows n).associated ≡ is_associated f n = knows.flags (n - 1) ∙ ap (is_associated f) e in
      rw (a, b, c) refl

  told-is : changes_read f.forest rows (numbers f.forest) ≡ form_changes before f
  told-is = made-same (change_read f.forest rows) (form_change before f) is_change 1 (size f.forest) told-of

-- the rows were filled up, lent, marked and lent again

module _ (touch : Touch) (before : Forms) (now : Trees) (tidy : IsTidy now) (table : OwnerRows) (filled lent marked given : List OwnerRow)
    (stood : Stands table before)
    (touched : IsTouched touch before.forest now) (same : (i : ℕ) → row_in filled i ≡ row_in table.rows i) (same_lent : lent ≡ filled)
    (same_given : given ≡ marked) (noted : Noted touch lent marked) where
  is-noted : Noted touch filled given
  is-noted = subst (λ rows. Noted touch rows given) same_lent (subst (Noted touch lent) (sym same_given) noted)

  -- what a mark isn't about is as it was in the table
  as-before : {A : Type 0} (read : OwnerRow → A) → ((row : OwnerRow) (on : Bool) → read (record row { associated = on }) ≡ read row) → (i : ℕ)
      → read (row_in given i) ≡ read (row_in table.rows i)
  as-before read keeps i = noted-keeps read keeps touch filled given is-noted i ∙ ap read (same i)

  pub knows-now : KnowsAssociated given (after_touch touch before now)
  knows-now = known before now filled given
      (record { flags = λ i. ap (λ (r : OwnerRow). r.associated) (same i) ∙ stood.associated.flags i; nodes = stood.associated.nodes }) touch touched is-noted

  owners : (i : ℕ) → (row_in given i).owner ≡ form_owner before (i + 1)
  owners i = as-before (λ (r : OwnerRow). r.owner) (λ row on. refl) i ∙ stood.owner i

  states : (i : ℕ) → (row_in given i).disabled ≡ is_disabled before (i + 1)
  states i = as-before (λ (r : OwnerRow). r.disabled) (λ row on. refl) i ∙ stood.disabled i

  pub seen-before : (i : ℕ) → (row_in given i).seen ≡ seen_at before.forest (i + 1)
  seen-before i = as-before (λ (r : OwnerRow). r.seen) (λ row on. refl) i ∙ stood.seen i

  -- the lists of before, as the rows and the trees are now
  pub lists-now : ListsStood now given
  lists-now =
      lists-stand before (after_touch touch before now) (tidy-before touch before.forest now touched tidy) tidy
      (size-stays touch before.forest now touched) given owners
      (λ i. as-before (λ (r : OwnerRow). r.controls) (λ row on. refl) i ∙ stood.controls i) knows-now.flags (order-stays touch before.forest now touched)

  -- who is not among the candidates is one of whom nothing is to be told
  pub covers-now : (candidates : List ℕ) → Covers candidates before (after_touch touch before now) → (n : ℕ) → IsNode now n → is_among n candidates ≡ false
      → is_change (change_read now given n) ≡ false
  covers-now candidates covers n node out = ap is_change (told-of before (after_touch touch before now) given knows-now owners states n node.low)
      ∙ covers n node out

  pub settled-changes : changes_read now given (numbers now) ≡ form_changes before (after_touch touch before now)
  settled-changes = told-is before (after_touch touch before now) given knows-now owners states

  read-seen : (read : List OwnerRow) → AreRenewed now given read → (i : ℕ) → (row_in read i).seen ≡ seen_at before.forest (i + 1)
  read-seen read are i = are.seen i ∙ seen-before i

  -- each element is noted for its `form` attribute as it was
  pub noted-now : (read : List OwnerRow) → AreRenewed now given read → AreNoted read (is_held table.named)
  noted-now read are = noted-before before.forest read (is_held table.named) (read-seen read are) stood.named

  pub settled : (read : List OwnerRow) → length read ≡ size now → AreRenewed now given read → (final : OwnerRows) (minded : List Look)
      → length final.rows ≡ size now → AreSeenBy touch now read final.rows (is_held table.named) (is_held final.named)
      → KnowsBy touch now (is_known table.named) (is_known final.named)
      → AreKept now (is_known table.named) (known_by touch now (is_known table.named)) table.looks minded
      → AreNotedBy touch now final.rows (is_known final.named) minded final.looks → Stands final (after_touch touch before now)
  settled read long are final minded final_long by knows kept looks =
      let sees = sees-now before.forest now read final.rows (is_held table.named) (is_held final.named) (read-seen read are) stood.named touch touched by in
      let flags : (i : ℕ) → (row_in final.rows i).associated ≡ is_associated (after_touch touch before now) (i + 1) =
      λ i. ap (λ (r : OwnerRow). r.associated) (sees.rest i) ∙ are.associated i ∙ knows-now.flags i in
      stands-now (after_touch touch before now) tidy given read long knows-now are final (omega (arith, final_long)) sees.rest sees.rows sees.index
      (λ i. looks i (looks-seen touch before now touched table.rows final.rows stood.associated.flags flags (is_known table.named)
      (is_known final.named) table.looks minded stood.looks kept knows i))
