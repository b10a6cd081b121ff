-- What is above a node stays, where a tree that it is not in is taken out.
use Rattle.std.proofs.Common.{◌≡◌, ℕ, List, [], ◌∷◌, refl, ◌∙◌, arith, inl, inr}
use Rattle.std.proofs.lemmas.Bool.{cases_eq}
use Rattle.std.proofs.lemmas.Bool.Decides.{nat_tests}
use Rattle.node_trees.specs.Trees.{Trees, none, tree, join, tree_of, without, place, cut}
use Rattle.node_trees.specs.Nodes.{times}
use Rattle.node_trees.proofs.Weights.{IsApart}
use Rattle.tree_laws.proofs.Sums.{apart-shadow, apart-children, apart-rest, times-join}
use Rattle.tree_laws.proofs.Pieces.{tree_of-here}
use Rattle.form_controls.specs.Owners.{ancestors_below, ancestors}
use Rattle.form_controls.proofs.Ancestors.{above-absent}

above-right : (above : List ℕ) (m : ℕ) (f g : Trees) → times m f ≡ 0 → ancestors_below above m (join f g) ≡ ancestors_below above m g
above-right above m none g z = refl
above-right above m (tree j x s k r) g z =
    grind (arith, nat_tests, above-right above m r g (omega arith), above-absent [] m s (omega arith), above-absent (j ∷ above) m k (omega arith))

above-place : (above : List ℕ) (m n : ℕ) (t f : Trees) → times m t ≡ 0 → ancestors_below above m (place n t f) ≡ ancestors_below above m f
above-place above m n t none z = above-absent above m t z
above-place above m n t (tree j x s k r) z =
    grind (arith, nat_tests, above-right above m t (tree j x s k r) z, above-place above m n t r z)

above-without : (above : List ℕ) (m n : ℕ) (f : Trees) → IsApart f → times m (tree_of n f) ≡ 0
    → ancestors_below above m (without n f) ≡ ancestors_below above m f
above-without above m n none apart z = refl
above-without above m n (tree j x s k r) apart z = elim (cases_eq j n) [
  | inl e ↦
      let here = tree_of-here n j x s k r e in
      let z_parts : times m (tree j x s k none) ≡ 0 = rw here at z in
      grind (arith, nat_tests, above-absent [] m s (omega arith), above-absent (j ∷ above) m k (omega arith))
  | inr ne ↦
      let parts : tree_of n (tree j x s k r) ≡ join (tree_of n s) (join (tree_of n k) (tree_of n r)) = grind (arith, nat_tests) in
      let z_parts : times m (join (tree_of n s) (join (tree_of n k) (tree_of n r))) ≡ 0 = rw parts at z in
      let z_s = times-join m (tree_of n s) (join (tree_of n k) (tree_of n r)) in
      let z_k = times-join m (tree_of n k) (tree_of n r) in
      let on_s = above-without [] m n s (apart-shadow j x s k r apart) (omega arith) in
      let on_k = above-without (j ∷ above) m n k (apart-children j x s k r apart) (omega arith) in
      let on_r = above-without above m n r (apart-rest j x s k r apart) (omega arith) in
      grind (arith, nat_tests, on_s, on_k, on_r)
]

pub ancestors-cut : (f : Trees) (n m : ℕ) → IsApart f → times m (tree_of n f) ≡ 0 → ancestors (cut f n) m ≡ ancestors f m
ancestors-cut f n m apart outside = above-place [] m n (tree_of n f) (without n f) outside ∙ above-without [] m n f apart outside
