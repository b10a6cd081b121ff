-- What stands at the other nodes stays.
use Rattle.std.proofs.Common.{◌≡◌, ℕ, List, Option, None, ap, sym, ◌∙◌, arith, inl, inr}
use Rattle.std.proofs.lemmas.Bool.{cases_lt}
use Rattle.std.specs.Option.{option_or}
use Rattle.node_trees.specs.Facts.{Facts}
use Rattle.node_trees.specs.Trees.{Trees, single, with_node, with_facts}
use Rattle.node_trees.specs.Spots.{Spot, spot_in, spot_at, or_no_spot}
use Rattle.node_trees.specs.Nodes.{times, IsNode, IsTidy}
use Rattle.node_trees.specs.Links.{KeepsSpots}
use Rattle.tree_laws.specs.Rows.{IsForest, Grafted}
use Rattle.tree_laws.proofs.AtNode.{node_spot}
use Rattle.tree_laws.proofs.Changed.{spot-with-other}
use Rattle.tree_laws.proofs.CutSpots.{spot-join}
use Rattle.tree_laws.proofs.RowForests.{stands_at, row_is}
use Rattle.node_trees.proofs.Absent.{spot-absent}

pub spots-same : (f g : Trees) (m : ℕ) → g ≡ f → spot_at g m ≡ spot_at f m
spots-same f g m e = ap (λ v. spot_at v m) e

pub spots-with : (n : ℕ) (c : Facts → Facts) (f g : Trees) → g ≡ with_facts n c f → KeepsSpots n n f g
spots-with n c f g e m ne again = spots-same (with_facts n c f) g m e ∙ ap or_no_spot (spot-with-other n c None None m f ne)

-- a new root leaves what stands at the others
pub spot_at-new : (n : ℕ) (x : Facts) (f : Trees) (i : ℕ) → IsTidy f → IsNode f i → spot_at (with_node n x f) i ≡ spot_at f i
spot_at-new n x f i tidy at =
    let st = node_spot f i tidy at in
    ap or_no_spot (spot-join None None i f (single n x) ∙ ap (λ v. option_or v (spot_in None None i (single n x))) st.is ∙ sym st.is)

pub spots-grafted : (rows rows' : List Spot) (f g : Trees) (p n : ℕ) (b : Option ℕ) → IsForest rows f → IsForest rows' g → Grafted rows rows' p n b
    → KeepsSpots p n f g
spots-grafted rows rows' f g p n b a a' w m ne_p ne_n =
    elim (cases_lt 0 (times m f)) [
      | inl low ↦
          let at = a.tidy.only m low in
          let still : IsNode g m = record { low = at.low; high = omega (arith, a.counted, a'.counted, w.length_is, at.high) } in
          let st = stands_at rows f m a at in
          ap or_no_spot (row_is rows' g m _ a' still (w.others m at.low ne_n ne_p ∙ st.row) ∙ sym st.it.spot_is)
      | inr out ↦ elim (cases_lt 0 (times m g)) [
        | inl low ↦
            let at = a'.tidy.only m low in
            let was : IsNode f m = record { low = at.low; high = omega (arith, a.counted, a'.counted, w.length_is, at.high) } in
            absurd (omega (arith, a.tidy.once m was, out))
        | inr away ↦ ap or_no_spot (spot-absent None None m g (omega arith) ∙ sym (spot-absent None None m f (omega arith)))
      ]
    ]
