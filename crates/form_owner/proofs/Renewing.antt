-- What the steps of a renewal leave.
use Rattle.std.proofs.Common.{◌≡◌, ◌≢◌, ℕ, zero, suc, ◌+◌, ◌-◌, ◌<◌, ◌≤◌, Bool, true, false, cond, List, [], ◌∷◌, Option, Some, None, refl, sym, ap, ◌∙◌, subst}
use Rattle.std.proofs.Common.{arith, inl, inr}
use Rattle.std.specs.Prelude.{filter, map, ◌||◌, nat_eq, is_some}
use Rattle.std.specs.List.{list_any, range_with_len}
use Rattle.std.specs.Option.{option_eq}
use Rattle.std.proofs.lemmas.Bool.{cases_eq, or_parts}
use Rattle.node_trees.specs.Trees.{Trees, is_number}
use Rattle.node_trees.specs.Nodes.{size, IsNode, IsTidy}
use Rattle.node_trees.specs.Orders.{tree_order_of}
use Rattle.node_trees.specs.Paths.{is_among, root_at}
use Rattle.tree_laws.proofs.InOrder.{member_is_node}
use Rattle.tree_laws.proofs.Parents.{number-is}
use Rattle.form_controls.specs.declared.change.Change.{Change}
use Rattle.form_controls.specs.Changes.{is_change, where_new, numbers}
use Rattle.form_controls.proofs.Differ.{owners_alike}
use Rattle.owner_reading.specs.Owners.{owner_with}
use Rattle.owner_rows.specs.OwnerRow.{OwnerRow, row_in, row_of}
use Rattle.form_owner.specs.Candidates.{Considers}
use Rattle.form_owner.specs.Reading.{change_read, changes_read, is_owned_in, owned_in}
use Rattle.form_owner.specs.Writing.{AreListed, AreRenewed, ListsStood, is_moved, is_moved_among, with_changes}
use Rattle.form_owner.proofs.Listing.{owned-same}
use Rattle.form_owner.proofs.Rows.{associated-stays, controls-stay, seen-stays, filter-members, reached, read_row}

-- what no change says

unsaid : (p : Change → Bool) (f : ℕ → Change) (says : Change → Bool) (a n : ℕ) → list_any p (map f (filter (λ k. says (f k)) (range_with_len a n))) ≡ false
    → (m : ℕ) → a ≤ m → m < a + n → says (f m) ≡ true → p (f m) ≡ false
unsaid p f says a zero none m le lt is = absurd (omega (arith, le, lt))
unsaid p f says a (suc n) none m le lt is =
    by_test (λ later other. unsaid p f says (a + 1) n later m (omega (arith, le, other)) (omega (arith, lt)) is) (says (f a)) refl none
  where
    rest : List ℕ
    rest = filter (λ k. says (f k)) (range_with_len (a + 1) n)

    by_test : (list_any p (map f rest) ≡ false → a ≢ m → p (f m) ≡ false) → (b : Bool) → says (f a) ≡ b → list_any p (map f (cond b (a ∷ rest) rest)) ≡ false
        → p (f m) ≡ false
    by_test on true e none = elim (cases_eq a m) [
      | inl same ↦ subst (λ k. p (f k) ≡ false) same (or_parts (p (f a)) (list_any p (map f rest)) none).0
      | inr other ↦ on (or_parts (p (f a)) (list_any p (map f rest)) none).1 other
    ]
    by_test on false e none = elim (cases_eq a m) [
      | inl same ↦ absurd (let it : says (f a) ≡ true = ap (λ k. says (f k)) same ∙ is in cc)
      | inr other ↦ on none other
    ]

-- a new owner that gives a form nothing and takes nothing from it leaves whether the form is the owner
same-owned : (old new : Option ℕ) (form : ℕ)
    → ((owner : Option ℕ) → where_new (option_eq nat_eq) old new ≡ Some owner → (is_number old form || is_number owner form) ≡ false)
    → is_number old form ≡ is_number new form
same-owned old new form says = by_test (option_eq nat_eq old new) refl
  where
    by_test : (b : Bool) → option_eq nat_eq old new ≡ b → is_number old form ≡ is_number new form
    by_test true e = ap (λ o. is_number o form) (owners_alike old new e)
    by_test false e = let both = or_parts (is_number old form) (is_number new form) (says new (ap (λ b. cond b None (Some new)) e)) in both.0 ∙ sym both.1

module _ (f : Trees) (tidy : IsTidy f) (old written new : List OwnerRow) (forms : List ℕ) (is : (i : ℕ)
    → row_in written i ≡ with_changes (changes_read f old (numbers f)) i (row_in old i)) (listed : AreListed f forms written new) where
  read : (i : ℕ) → i < size f → row_in written i ≡ read_row f old i
  read i lt = is i ∙ reached f old i 1 (size f) (omega arith) (omega arith) (omega arith)

  owner-read : (i : ℕ) → i < size f → (row_in new i).owner ≡ owner_with f (i + 1) (row_in old i).associated
  owner-read i lt = ap (λ (r : OwnerRow). r.owner) (listed.same i) ∙ ap (λ (r : OwnerRow). r.owner) (read i lt)

  -- a form that no change is about keeps its list
  module _ (i : ℕ) (lt : i < size f) (unmoved : is_moved_among old (changes_read f old (numbers f)) (i + 1) ≡ false) (lists : ListsStood f old) where
    said-of : (m : ℕ) → IsNode f m → (owner : Option ℕ) → (change_read f old m).owner ≡ Some owner
        → (is_number (row_of old m).owner (i + 1) || is_number owner (i + 1)) ≡ false
    said-of m node owner e =
        let high = node.high in
        let said : is_change (change_read f old m) ≡ true = ap (λ o. is_some o || is_some (change_read f old m).disabled) e in
        sym (ap (λ o. is_moved old m o (i + 1)) e)
        ∙ unsaid (λ (c : Change). is_moved old c.node c.owner (i + 1)) (change_read f old) is_change 1 (size f) unmoved m node.low (omega (arith, high)) said

    keeps : (m : ℕ) → IsNode f m → is_owned_in old (i + 1) m ≡ is_number (owner_with f m (row_of old m).associated) (i + 1)
    keeps m node = same-owned (row_of old m).owner (owner_with f m (row_of old m).associated) (i + 1) (said-of m node)

    kept-list : (row_in old i).controls ≡ owned_in new f (i + 1)
    kept-list =
        sym (lists.owned i)
        ∙ lists.kept i (record { low = omega arith; high = omega arith }) (is_owned_in old (i + 1))
        (λ m node owned. record { owned = owned; owns = number-is (owner_with f m (row_of old m).associated) (i + 1) (sym (keeps m node) ∙ owned) })
        ∙ filter-members (is_owned_in old (i + 1)) (is_owned_in new (i + 1)) (tree_order_of f (root_at f (i + 1)))
        (λ m among. owned-now m (member_is_node f (root_at f (i + 1)) m tidy among))
      where
        owned-now : (m : ℕ) → IsNode f m → is_owned_in old (i + 1) m ≡ is_owned_in new (i + 1) m
        owned-now m node =
            let low = node.low in
            let high = node.high in
            let same : (m - 1) + 1 ≡ m = omega arith in
            keeps m node ∙ sym (ap (λ o. is_number o (i + 1)) (owner-read (m - 1) (omega arith) ∙ ap (λ k. owner_with f k (row_of old m).associated) same))

  pub are-renewed : Considers f (λ m. true) (is_moved_among old (changes_read f old (numbers f))) [] forms → ListsStood f old → AreRenewed f old new
  are-renewed all lists = record {
    associated = λ i. ap (λ (r : OwnerRow). r.associated) (listed.same i) ∙ ap (λ (r : OwnerRow). r.associated) (is i)
        ∙ associated-stays (changes_read f old (numbers f)) i (row_in old i);
    seen = λ i. ap (λ (r : OwnerRow). r.seen) (listed.same i) ∙ ap (λ (r : OwnerRow). r.seen) (is i)
        ∙ seen-stays (changes_read f old (numbers f)) i (row_in old i);
    owner = owner-read;
    disabled = λ i lt. ap (λ (r : OwnerRow). r.disabled) (listed.same i) ∙ ap (λ (r : OwnerRow). r.disabled) (read i lt);
    controls = λ i lt. by_test i lt (is_among (i + 1) forms) refl (is_moved_among old (changes_read f old (numbers f)) (i + 1)) refl;
  }
    where
      by_test : (i : ℕ) → i < size f → (b : Bool) → is_among (i + 1) forms ≡ b → (c : Bool) → is_moved_among old (changes_read f old (numbers f)) (i + 1) ≡ c
          → (row_in new i).controls ≡ owned_in new f (i + 1)
      by_test i lt true among c e = listed.listed i among ∙ sym (owned-same f written new listed.same (i + 1))
      by_test i lt false among true e = absurd (let it = all.found (i + 1) (record { low = omega arith; high = omega arith }) refl e in cc)
      by_test i lt false among false e =
          listed.others i among
          ∙ ap (λ (r : OwnerRow). r.controls) (is i)
          ∙ controls-stay (changes_read f old (numbers f)) i (row_in old i)
          ∙ kept-list i lt e lists

-- the forms that were put into a set, as a list
pub involved-of : (f : Trees) (rows : List OwnerRow) (cs : List Change) (set forms : List ℕ) → cs ≡ changes_read f rows (numbers f) → forms ≡ set
    → Considers f (λ m. true) (is_moved_among rows cs) [] set →
    Considers f (λ m. true) (is_moved_among rows (changes_read f rows (numbers f))) [] forms
involved-of f rows cs set forms is same all =
    subst (Considers f (λ m. true) (is_moved_among rows (changes_read f rows (numbers f))) []) (sym same)
    (subst (λ ds. Considers f (λ m. true) (is_moved_among rows ds) [] set) is all)
