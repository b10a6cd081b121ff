-- No ancestors where the node does not stand.
use Rattle.std.proofs.Common.{◌≡◌, ℕ, List, [], ◌∷◌, refl, arith}
use Rattle.std.proofs.lemmas.Bool.Decides.{nat_tests}
use Rattle.node_trees.specs.Trees.{Trees, none, tree}
use Rattle.node_trees.specs.Nodes.{times}
use Rattle.form_controls.specs.Owners.{ancestors_below}

pub above-absent : (above : List ℕ) (n : ℕ) (f : Trees) → times n f ≡ 0 → ancestors_below above n f ≡ []
above-absent above n none z = refl
above-absent above n (tree m x s k r) z =
    grind (arith, nat_tests, above-absent [] n s (omega arith), above-absent (m ∷ above) n k (omega arith), above-absent above n r (omega arith))
