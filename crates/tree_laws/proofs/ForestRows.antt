-- A tidy forest stands in its own rows.
use Rattle.std.proofs.Common.{◌≡◌, ℕ, zero, suc, ◌-◌, ◌<◌, ◌≤◌, List, [], ◌∷◌, Option, Some, None, refl, ap, sym, subst, ◌∙◌, arith, inl, inr, length}
use Rattle.std.proofs.Common.{length-append}
use Rattle.std.proofs.lemmas.Bool.{cases_lt}
use Rattle.std.proofs.lemmas.Bool.Decides.{nat_tests}
use Rattle.ce_base.proofs.Places.{slice_get-append_front}
use Rattle.node_trees.specs.Trees.{Trees, none, tree}
use Rattle.node_trees.specs.Spots.{Spot, spot_in, spot_at, or_no_spot}
use Rattle.node_trees.specs.Nodes.{times, size, IsNode, IsTidy}
use Rattle.node_trees.proofs.Weights.{IsApart}
use Rattle.tree_laws.specs.Rows.{row_of_node, rows_to, rows_of, Stands, IsForest}
use Rattle.tree_laws.proofs.AtNode.{node_spot}
use Rattle.tree_laws.proofs.ByIndex.{slice_get-append_end}
use Rattle.tree_laws.proofs.Pieces.{spot-here, spot-shadow, spot-children, spot-rest}
use Rattle.tree_laws.proofs.Sums.{tidy-apart, apart-shadow, apart-children, apart-rest}

rows_to-length : (f : Trees) (k : ℕ) → length (rows_to f k) ≡ k
rows_to-length f zero = refl
rows_to-length f (suc k) = omega (arith, rows_to-length f k, length-append (rows_to f k) (spot_at f (suc k) ∷ []))

pub rows_of-length : (f : Trees) → length (rows_of f) ≡ size f
rows_of-length f = rows_to-length f (size f)

rows_to-at : (f : Trees) (k n : ℕ) → 0 < n → n ≤ k → row_of_node (rows_to f k) n ≡ Some (spot_at f n)
rows_to-at f zero n low high = absurd (omega arith)
rows_to-at f (suc k) n low high =
    let long = rows_to-length f k in
    elim (cases_lt k n) [
      | inl last ↦
          let e : n ≡ suc k = omega arith in
          subst (λ v. row_of_node (rows_to f (suc k)) v ≡ Some (spot_at f v)) (sym e)
          (slice_get-append_end (rows_to f k) (spot_at f (suc k)) (suc k - 1) (omega arith))
      | inr front ↦ slice_get-append_front (rows_to f k) (spot_at f (suc k) ∷ []) (n - 1) (omega arith) ∙ rows_to-at f k n low (omega arith)
    ]

pub rows_of-at : (f : Trees) (n : ℕ) → IsNode f n → row_of_node (rows_of f) n ≡ Some (spot_at f n)
rows_of-at f n at = rows_to-at f (size f) n at.low at.high

module _ (rows : List Spot) where
  stand_in : (p h : Option ℕ) (g : Trees) → IsApart g → ((i : ℕ) → 0 < times i g → (0 < i) × (row_of_node rows i ≡ spot_in p h i g)) → Stands rows p h g
  stand_in p h none apart at = tt
  stand_in p h (tree m x s k r) apart at =
      let it = at m (grind (arith, nat_tests)) in (
        it.0,
        it.1 ∙ spot-here p h m m x s k r refl,
        stand_in None (Some m) s (apart-shadow m x s k r apart)
            (λ i low. let one = apart i in let on = at i (omega (arith, low)) in
            (on.0, on.1 ∙ spot-shadow p h i m x s k r (grind (arith, nat_tests)) (grind (arith, nat_tests)) (grind (arith, nat_tests)))),
        stand_in (Some m) None k (apart-children m x s k r apart)
            (λ i low. let one = apart i in let on = at i (omega (arith, low)) in
            (on.0, on.1 ∙ spot-children p h i m x s k r (grind (arith, nat_tests)) (grind (arith, nat_tests)) (grind (arith, nat_tests)))),
        stand_in p h r (apart-rest m x s k r apart)
            (λ i low. let one = apart i in let on = at i (omega (arith, low)) in
            (on.0, on.1 ∙ spot-rest p h i m x s k r (grind (arith, nat_tests)) (grind (arith, nat_tests)) (grind (arith, nat_tests)))),
      )

pub rows_of-forest : (f : Trees) → IsTidy f → IsForest (rows_of f) f
rows_of-forest f tidy = record {
  stands = stand_in (rows_of f) None None f (tidy-apart f tidy) (λ i low.
      let at = tidy.only i low in
      let st = node_spot f i tidy at in
      (at.low, rows_of-at f i at ∙ ap (λ v. Some (or_no_spot v)) st.is ∙ sym st.is));
  tidy = tidy;
  counted = sym (rows_of-length f);
}
