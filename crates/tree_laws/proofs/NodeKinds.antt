-- The nodes stay, and stay what they are.
use Rattle.std.proofs.Common.{◌≡◌, ℕ, ◌+◌, ◌<◌, ◌≤◌, List, [], ◌∷◌, Option, Some, Result, Ok, Err, refl, ap, sym, ◌∙◌, arith, inl, inr, length, OnOk, OnErr}
use Rattle.std.proofs.lemmas.Bool.{cases_eq}
use Rattle.node_trees.specs.Facts.{Facts}
use Rattle.node_trees.specs.Trees.{Trees, cut, with_node, with_facts}
use Rattle.node_trees.specs.Spots.{Spot, or_no_spot, kind_at}
use Rattle.node_trees.specs.Nodes.{size, IsNode, IsTidy}
use Rattle.node_trees.specs.Kinds.{KeepsKinds}
use Rattle.tree_laws.specs.Numbers.{insert_number}
use Rattle.tree_laws.specs.Rows.{row_of_node, IsForest, Grafted, Attached}
use Rattle.tree_laws.proofs.AtNode.{spot_at-is}
use Rattle.tree_laws.proofs.Changed.{size-with}
use Rattle.tree_laws.proofs.ChangedReads.{kind_at-with}
use Rattle.tree_laws.proofs.CutReads.{kind_at-cut}
use Rattle.tree_laws.proofs.NewReads.{spot-new-here}
use Rattle.tree_laws.proofs.Sizes.{size-cut, size-with_node, new-absent}
use Rattle.tree_laws.proofs.RowForests.{stands_at, row_is}
use Rattle.tree_laws.proofs.OtherSpots.{spot_at-new}

-- what holds of both answers
pub by_result : {T E P Q R : Type 0} (r : Result T E) → (P → R) → (Q → R) → OnOk r P → OnErr r Q → R
by_result (Ok x) of_ok of_err ok err = of_ok ok
by_result (Err e) of_ok of_err ok err = of_err err

pub kinds-same : (f g : Trees) → g ≡ f → KeepsKinds f g
kinds-same f g e = record { nodes = omega (arith, ap size e); kinds = λ n at. ap (λ v. kind_at v n) e }

pub kinds-with : (n : ℕ) (c : Facts → Facts) (f g : Trees) → ((x : Facts) → (c x).kind ≡ x.kind) → g ≡ with_facts n c f → KeepsKinds f g
kinds-with n c f g keeps e = rw e (record { nodes = omega (arith, size-with n c f); kinds = λ i at. kind_at-with n c f keeps i })

pub kinds-cut : (f g : Trees) (n : ℕ) → IsTidy f → IsNode f n → g ≡ cut f n → KeepsKinds f g
kinds-cut f g n tidy node e = rw e (record { nodes = omega (arith, size-cut f n tidy); kinds = λ i at. kind_at-cut f n tidy node i })

pub kinds-new : (n : ℕ) (x : Facts) (f g : Trees) → IsTidy f → g ≡ with_node n x f → KeepsKinds f g
kinds-new n x f g tidy e = rw e
    (record { nodes = omega (arith, size-with_node n x f); kinds = λ i at. ap (λ (s : Spot). s.facts.kind) (spot_at-new n x f i tidy at) })

-- the new root is a node of its kind
pub kind-new : (x : Facts) (f g : Trees) (n : ℕ) → IsTidy f → g ≡ with_node (size f + 1) x f → n ≡ size f + 1 → IsNode g n × (kind_at g n ≡ x.kind)
kind-new x f g n tidy e is =
    rw (e, is) (
      record { low = omega arith; high = omega (arith, size-with_node (size f + 1) x f) },
      ap (λ o. (or_no_spot o).facts.kind) (spot-new-here (size f + 1) x f (new-absent f tidy)),
    )

-- ---- by the rows

-- each row that was there is there, with the same kind
record KeepsRows (rows rows' : List Spot) : Type 0 where
  longer : length rows ≤ length rows'
  kept : (m : ℕ) (it : Spot) → 0 < m → m ≤ length rows → row_of_node rows m ≡ Some it
      → (new : Spot) × (row_of_node rows' m ≡ Some new) × (new.facts.kind ≡ it.facts.kind)

kinds-rows : (rows rows' : List Spot) (f g : Trees) → IsForest rows f → IsForest rows' g → KeepsRows rows rows' → KeepsKinds f g
kinds-rows rows rows' f g a b keeps = record {
  nodes = omega (arith, a.counted, b.counted, keeps.longer);
  kinds = λ n at.
      let st = stands_at rows f n a at in
      let new = keeps.kept n _ at.low (omega (arith, a.counted, at.high)) st.row in
      let still : IsNode g n = record { low = at.low; high = omega (arith, a.counted, b.counted, keeps.longer, at.high) } in
      let there = spot_at-is g n new.0 (row_is rows' g n new.0 b still new.1) in
      let here = spot_at-is f n _ st.it.spot_is in
      ap (λ (s : Spot). s.facts.kind) there ∙ new.2 ∙ ap (λ (s : Spot). s.facts.kind) (sym here);
}

pub kinds-grafted : (rows rows' : List Spot) (f g : Trees) (p n : ℕ) (b : Option ℕ) → IsForest rows f → IsForest rows' g → Grafted rows rows' p n b
    → KeepsKinds f g
kinds-grafted rows rows' f g p n b a a' w =
    kinds-rows rows rows' f g a a' (record {
      longer = omega (arith, w.length_is);
      kept = λ m it lo hi is.
          elim (cases_eq m n) [
            | inl e ↦ (record it { parent = Some p }, rw e (w.moved it (rw e at is)), refl)
            | inr ne ↦ elim (cases_eq m p) [
              | inl e ↦ (record it { children = insert_number b n it.children }, rw e (w.there it (rw e at is)), refl)
              | inr ne_p ↦ (it, w.others m lo ne ne_p ∙ is, refl)
            ]
          ];
    })

pub kinds-attached : (rows rows' : List Spot) (f g : Trees) (h n : ℕ) (x : Facts) → IsForest rows f → IsForest rows' g → n ≡ length rows + 1
    → Attached rows rows' h n x → KeepsKinds f g
kinds-attached rows rows' f g h n x a a' last w =
    kinds-rows rows rows' f g a a' (record {
      longer = omega (arith, w.length_is);
      kept = λ m it lo hi is.
          elim (cases_eq m h) [
            | inl e ↦ (record it { shadow = n ∷ [] }, rw e (w.there it (rw e at is)), refl)
            | inr ne ↦ (it, w.others m lo (λ e. omega (arith, e, last, hi)) ne ∙ is, refl)
          ];
    })
