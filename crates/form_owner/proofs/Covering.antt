-- Who is not among the candidates of a move has the form owner and the disabled state that it had.
use Rattle.std.proofs.Common.{◌≡◌, ℕ, ◌+◌, ◌-◌, Bool, true, false, List, [], Some, refl, sym, ap, ◌∙◌, subst, arith}
use Rattle.std.specs.Prelude.{◌&&◌, ◌||◌, codes}
use Rattle.std.proofs.lemmas.Bool.{or_parts}
use Rattle.element_names.specs.declared.natives.Native.TheVariants.{Fieldset, Legend}
use Rattle.node_trees.specs.Facts.{Facts, value_in}
use Rattle.node_trees.specs.Trees.{Trees, graft}
use Rattle.node_trees.specs.Nodes.{IsNode}
use Rattle.node_trees.specs.Orders.{order_of, tree_order_of}
use Rattle.node_trees.specs.Paths.{is_among}
use Rattle.node_trees.specs.Spots.{facts_at, parent_at}
use Rattle.tree_laws.proofs.InOrder.{order-inside}
use Rattle.tree_laws.proofs.Walked.{order-has}
use Rattle.form_controls.specs.Changes.{differs}
use Rattle.form_controls.specs.Kinds.{is_a}
use Rattle.form_controls.specs.Owners.{Forms, is_associated}
use Rattle.ordered_tables.specs.Held.{is_held}
use Rattle.ordered_tables.specs.declared.id_index.IdIndex.{IdIndex}
use Rattle.above_reading.specs.Locality.{IsAsideOfMove, IsUnchanged}
use Rattle.above_reading.proofs.Moves.{unchanged-graft, unchanged-cut}
use Rattle.above_reading.proofs.PutBack.{graft-up}
use Rattle.tree_laws.proofs.Sizes.{node-still}
use Rattle.owner_rows.specs.OwnerRow.{OwnerRow, row_of}
use Rattle.form_owner.specs.Candidates.{Considers, Covers, is_concerned, is_named_among, is_of_legend, is_of_move}
use Rattle.form_owner.specs.OwnerRows.{OwnerRows}
use Rattle.form_owner.specs.Stands.{Stands}
use Rattle.form_owner.specs.Touches.{IsInserted, IsRemoved}
use Rattle.form_owner.proofs.Naming.{none-named}
use Rattle.form_owner.proofs.Touching.{inserted-shift, removed-shift}
use Rattle.form_owner.proofs.Unchanged.{no-change, unconcerned}

-- who was not put into a set is one that forms are not about, or that the test is false of
pub left-out : {forest : Trees} {about test : ℕ → Bool} {set : List ℕ} → Considers forest about test [] set → (m : ℕ) → IsNode forest m
    → is_among m set ≡ false → about m ≡ true → test m ≡ false
left-out {forest} {about} {test} {set} all m node out is = by_test (test m) refl
  where
    by_test : (b : Bool) → test m ≡ b → b ≡ false
    by_test true passes = absurd (let it = all.found m node is passes in cc)
    by_test false passes = refl

third : (a b c : Bool) → ((a && b) && c) ≡ false → a ≡ true → b ≡ true → c ≡ false
third true true c e is_a is_b = e
third true false c e is_a is_b = absurd cc
third false b c e is_a is_b = absurd cc

-- the row of a node has its flag
pub flag : (table : OwnerRows) (before : Forms) → Stands table before → (now : Trees) (m : ℕ) → IsNode now m
    → is_associated before m ≡ (row_of table.rows m).associated
flag table before stands now m node =
    let low = node.low in
    let same : (m - 1) + 1 ≡ m = omega arith in
    sym (stands.associated.flags (m - 1) ∙ ap (is_associated before) same)

-- a move

module _ (table : OwnerRows) (before : Forms) (stands : Stands table before) (now : Trees) (n p : ℕ) (facts : (m : ℕ)
    → facts_at now m ≡ facts_at before.forest m) where
  abbrev moved : Forms
  moved = record { forest = now; associated = before.associated }

  aside : (m : ℕ) → is_of_move now (is_held table.named) n p m ≡ false → IsAsideOfMove now n p m
  aside m fails = record {
    outside = parts.0;
    unnamed = λ id j is among. none-named before.forest (is_held table.named) stands.named now m
        (ap (λ (x : Facts). value_in x.attributes (codes "form")) (facts m)) (order_of now n) rest.0 id j is (order-has j _ (order-inside j _ among));
    legend = third (is_a Legend now n) (is_a Fieldset now p) (is_among m (tree_order_of now p)) rest.1;
  }
    where
      parts : (is_among m (order_of now n) ≡ false) × ((is_named_among now (is_held table.named) (order_of now n) m || is_of_legend now n p m) ≡ false)
      parts = or_parts (is_among m (order_of now n)) (is_named_among now (is_held table.named) (order_of now n) m || is_of_legend now n p m) fails

      rest : (is_named_among now (is_held table.named) (order_of now n) m ≡ false) × (is_of_legend now n p m ≡ false)
      rest = or_parts (is_named_among now (is_held table.named) (order_of now n) m) (is_of_legend now n p m) parts.1

  pub covers-move : (set : List ℕ) → Considers now (is_concerned now table.rows) (is_of_move now (is_held table.named) n p) [] set
      → ((m : ℕ) → IsNode now m → IsAsideOfMove now n p m → IsUnchanged before moved m) → Covers set before moved
  covers-move set all unchanged m node out = by_test (is_concerned now table.rows m) refl
    where
      by_test : (b : Bool) → is_concerned now table.rows m ≡ b → differs before moved m ≡ false
      by_test true is = no-change before moved m (unchanged m node (aside m (left-out all m node out is)))
      by_test false is =
          let of_row = flag table before stands now m node in
          no-change before moved m (unconcerned before moved m (row_of table.rows m).associated (ap (λ (x : Facts). x.local) (facts m)) of_row of_row is)

pub covers-inserted : (table : OwnerRows) (before : Forms) → Stands table before → (now : Trees) (n : ℕ) (t : IsInserted n before.forest now) (p : ℕ)
    → parent_at now n ≡ Some p → (set : List ℕ) → Considers now (is_concerned now table.rows) (is_of_move now (is_held table.named) n p) [] set →
    Covers set before (record { forest = now; associated = before.associated })
covers-inserted table before stands now n t p up set all =
    covers-move table before stands now n p (inserted-shift n before.forest now t).facts set all
    (λ m node aside. subst (λ f. IsAsideOfMove f n p m → IsUnchanged before (record { forest = f; associated = before.associated }) m) (sym t.is)
    (λ beside. unchanged-graft before t.parent n t.before t.tidy t.parent_node t.node t.before_node t.may t.free m
    (node-still before.forest now t.size_is m node) (subst (λ q. IsAsideOfMove (graft before.forest t.parent n t.before) n q m) same_parent beside)) aside)
  where
    same_parent : p ≡ t.parent
    same_parent = let it : Some p ≡ Some t.parent =
        sym up ∙ ap (λ f. parent_at f n) t.is ∙ graft-up before.forest t.parent n t.before t.tidy t.parent_node t.node t.may t.free in cc

pub covers-removed : (table : OwnerRows) (before : Forms) → Stands table before → (now : Trees) (n p : ℕ) (t : IsRemoved n p before.forest now) (set : List ℕ)
    → Considers now (is_concerned now table.rows) (is_of_move now (is_held table.named) n p) [] set →
    Covers set before (record { forest = now; associated = before.associated })
covers-removed table before stands now n p t set all =
    covers-move table before stands now n p (removed-shift n p before.forest now t).facts set all
    (λ m node aside. subst (λ f. IsAsideOfMove f n p m → IsUnchanged before (record { forest = f; associated = before.associated }) m) (sym t.is)
    (unchanged-cut before n p t.tidy t.node t.placed m (node-still before.forest now t.size_is m node)) aside)

-- the rows and the index of a table
pub of-table : {forest : Trees} {set : List ℕ} (test : List OwnerRow → (List ℕ → ℕ → Bool) → ℕ → Bool) (table : OwnerRows) (rows : List OwnerRow)
    (named : IdIndex) → rows ≡ table.rows → named ≡ table.named →
    Considers forest (is_concerned forest rows) (test rows (is_held named)) [] set
    → Considers forest (is_concerned forest table.rows) (test table.rows (is_held table.named)) [] set
of-table {forest} {set} test table rows named same_rows same_named all =
    subst (λ r. Considers forest (is_concerned forest r) (test r (is_held table.named)) [] set) same_rows
    (subst (λ i. Considers forest (is_concerned forest rows) (test rows (is_held i)) [] set) same_named all)
