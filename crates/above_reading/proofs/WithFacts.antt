-- What stays of trees where the facts of one node change: what is above each node, and the roots.
use Rattle.std.proofs.Common.{◌≡◌, ℕ, List, [], ◌∷◌, refl, ap, ◌∙◌, arith}
use Rattle.std.specs.Prelude.{not, is_some, reverse}
use Rattle.std.specs.List.{find}
use Rattle.std.proofs.lemmas.Bool.Decides.{nat_tests}
use Rattle.std.specs.Prelude.{unwrap_or}
use Rattle.node_trees.specs.Facts.{Facts}
use Rattle.node_trees.specs.Trees.{Trees, none, tree, with_facts}
use Rattle.node_trees.specs.Paths.{path, root_at, has_parent}
use Rattle.tree_laws.proofs.Changed.{path-with}
use Rattle.tree_laws.proofs.ChangedReads.{parent_at-with}
use Rattle.form_controls.specs.Owners.{ancestors_below}
use Rattle.above_reading.proofs.Tests.{find-same}

pub above-with : (n : ℕ) (c : Facts → Facts) (above : List ℕ) (i : ℕ) (f : Trees) → ancestors_below above i (with_facts n c f) ≡ ancestors_below above i f
above-with n c above i none = refl
above-with n c above i (tree m x s k r) = grind (arith, nat_tests, above-with n c [] i s, above-with n c (m ∷ above) i k, above-with n c above i r)

-- the root of each node's tree

module _ (f : Trees) (n : ℕ) (c : Facts → Facts) where
  pub root-with : (i : ℕ) → root_at (with_facts n c f) i ≡ root_at f i
  root-with i =
      ap (λ xs. unwrap_or (find (λ j. not (has_parent (with_facts n c f) j)) (reverse xs)) i) (path-with n c i f)
      ∙ ap (λ o. unwrap_or o i) (find-same (λ j. not (has_parent (with_facts n c f) j)) (λ j. not (has_parent f j)) (reverse (path i f))
      (λ j _. ap (λ o. not (is_some o)) (parent_at-with n c f j)))
