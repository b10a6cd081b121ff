-- Lists of controls that stood before a touch, as the rows and the trees are after it.
use Rattle.std.proofs.Common.{◌≡◌, ℕ, ◌+◌, ◌-◌, ◌<◌, Bool, true, false, List, Some, refl, sym, ap, ◌∙◌, arith}
use Rattle.std.specs.Prelude.{filter, ◌&&◌, nat_lt}
use Rattle.std.proofs.lemmas.Bool.Decides.{nat_tests}
use Rattle.std.proofs.lemmas.Bool.{and_parts}
use Rattle.node_trees.specs.Trees.{is_number}
use Rattle.node_trees.specs.Nodes.{size, IsNode, IsTidy}
use Rattle.node_trees.specs.Orders.{tree_order_of}
use Rattle.node_trees.specs.Paths.{is_among, root_at}
use Rattle.tree_laws.proofs.InOrder.{member_is_node}
use Rattle.form_controls.specs.Owners.{Forms, form_owner, is_associated, is_owned_by, controls_of}
use Rattle.owner_reading.specs.Owners.{owner_with}
use Rattle.above_reading.proofs.OwnerTogether.{owner-together}
use Rattle.tree_laws.proofs.Sizes.{node-still}
use Rattle.tree_laws.proofs.Parents.{number-is}
use Rattle.above_reading.proofs.TogetherCut.{AreTogether}
use Rattle.owner_rows.specs.OwnerRow.{OwnerRow, row_in, row_of}
use Rattle.form_owner.specs.Reading.{is_owned_in}
use Rattle.form_owner.specs.Writing.{IsKept, ListsStood}
use Rattle.form_owner.proofs.Leaving.{filter-filter, filter-swap}
use Rattle.form_owner.proofs.Rows.{filter-members}

-- one test after another
filter-twice : (p q : ℕ → Bool) (xs : List ℕ) → filter p (filter q xs) ≡ filter (λ x. q x && p x) xs
filter-twice p q xs = filter-swap p q xs ∙ filter-filter q p xs

module _ (before after : Forms) (old_tidy : IsTidy before.forest) (tidy : IsTidy after.forest) (long : size after.forest ≡ size before.forest)
    (rows : List OwnerRow)
    (owners : (i : ℕ) → (row_in rows i).owner ≡ form_owner before (i + 1))
    (controls : (i : ℕ) → (row_in rows i).controls ≡ controls_of before (i + 1))
    (flags : (i : ℕ) → (row_in rows i).associated ≡ is_associated after (i + 1))
    (stays : (g : ℕ) → IsNode before.forest g → (q : ℕ → Bool) → AreTogether q before.forest after.forest g →
    filter q (tree_order_of after.forest (root_at after.forest g)) ≡ filter q (tree_order_of before.forest (root_at before.forest g))) where
  number : (m : ℕ) → 0 < m → (m - 1) + 1 ≡ m
  number m low = omega (arith, low)

  owned-before : (m g : ℕ) → 0 < m → is_owned_in rows g m ≡ is_owned_by before g m
  owned-before m g low = ap (λ o. is_number o g) (owners (m - 1) ∙ ap (form_owner before) (number m low))

  abbrev order_before : ℕ → List ℕ
  order_before g = tree_order_of before.forest (root_at before.forest g)

  in-order : (g m : ℕ) → is_among m (order_before g) ≡ true → IsNode before.forest m
  in-order g m among = member_is_node before.forest (root_at before.forest g) m old_tidy among

  -- each is owned, by the rows
  all-owned : (i : ℕ) → filter (is_owned_in rows (i + 1)) (row_in rows i).controls ≡ (row_in rows i).controls
  all-owned i =
      ap (filter (is_owned_in rows (i + 1))) (controls i)
      ∙ filter-twice (is_owned_in rows (i + 1)) (is_owned_by before (i + 1)) (order_before (i + 1))
      ∙ filter-members (λ m. is_owned_by before (i + 1) m && is_owned_in rows (i + 1) m) (is_owned_by before (i + 1)) (order_before (i + 1)) same
      ∙ sym (controls i)
    where
      twice : (b : Bool) → (b && b) ≡ b
      twice true = refl
      twice false = refl

      same : (m : ℕ) → is_among m (order_before (i + 1)) ≡ true → (is_owned_by before (i + 1) m && is_owned_in rows (i + 1) m) ≡ is_owned_by before (i + 1) m
      same m among = ap (λ b. is_owned_by before (i + 1) m && b) (owned-before m (i + 1) (in-order (i + 1) m among).low) ∙ twice (is_owned_by before (i + 1) m)

  -- those that a form keeps stand in tree order

  module _ (i : ℕ) (node : IsNode after.forest (i + 1)) (test : ℕ → Bool) (kept : (m : ℕ) → IsNode after.forest m → test m ≡ true
      → IsKept after.forest rows (i + 1) m) where
    abbrev is_number_of_node : ℕ → Bool
    is_number_of_node m = nat_lt 0 m && nat_lt m (size after.forest + 1)

    of_node : (m : ℕ) → is_number_of_node m ≡ true → IsNode after.forest m
    of_node m e =
        let both = and_parts (nat_lt 0 m) (nat_lt m (size after.forest + 1)) e in
        record { low = grind (arith, nat_tests, both.0); high = let less : m < size after.forest + 1 = grind (arith, nat_tests, both.1) in omega (arith, less) }

    has_number : (m : ℕ) → IsNode after.forest m → is_number_of_node m ≡ true
    has_number m at = let low = at.low in let high = at.high in grind (arith, nat_tests, low, high)

    abbrev tested : ℕ → Bool
    tested m = test m && is_number_of_node m

    drops : (m : ℕ) → IsNode after.forest m → tested m ≡ test m
    drops m at = ap (λ b. test m && b) (has_number m at) ∙ and-true (test m)
      where
        and-true : (b : Bool) → (b && true) ≡ b
        and-true true = refl
        and-true false = refl

    owned-if : (m : ℕ) → IsNode after.forest m → (b : Bool) → test m ≡ b → (is_owned_by before (i + 1) m && b) ≡ b
    owned-if m at true e = ap (λ b. b && true) (sym (owned-before m (i + 1) at.low) ∙ (kept m at e).owned)
    owned-if m at false e = and-false (is_owned_by before (i + 1) m)
      where
        and-false : (b : Bool) → (b && false) ≡ false
        and-false true = refl
        and-false false = refl

    together : AreTogether tested before.forest after.forest (i + 1)
    together m e =
        let both = and_parts (test m) (is_number_of_node m) e in
        let at = of_node m both.1 in
        let it = kept m at both.0 in
        let was : form_owner before m ≡ Some (i + 1) = number-is (form_owner before m) (i + 1) (sym (owned-before m (i + 1) at.low) ∙ it.owned) in
        let flag : (row_of rows m).associated ≡ is_associated after m = flags (m - 1) ∙ ap (is_associated after) (number m at.low) in
        let is : form_owner after m ≡ Some (i + 1) = ap (owner_with after.forest m) (sym flag) ∙ it.owns in
        let at_before = node-still before.forest after.forest long m at in
        (at_before, (owner-together before m (i + 1) old_tidy at_before was, owner-together after m (i + 1) tidy at is))

    kept-order : filter test (row_in rows i).controls ≡ filter test (tree_order_of after.forest (root_at after.forest (i + 1)))
    kept-order =
        ap (filter test) (controls i)
        ∙ filter-twice test (is_owned_by before (i + 1)) (order_before (i + 1))
        ∙ filter-members (λ m. is_owned_by before (i + 1) m && test m) tested (order_before (i + 1))
        (λ m among. let at = node-still after.forest before.forest (sym long) m (in-order (i + 1) m among) in owned-if m at (test m) refl ∙ sym (drops m at))
        ∙ sym (stays (i + 1) (node-still before.forest after.forest long (i + 1) node) tested together)
        ∙ filter-members tested test (tree_order_of after.forest (root_at after.forest (i + 1)))
        (λ m among. drops m (member_is_node after.forest (root_at after.forest (i + 1)) m tidy among))

  pub lists-stand : ListsStood after.forest rows
  lists-stand = record { owned = all-owned; kept = kept-order }
