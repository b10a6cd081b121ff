-- The reads of a forest after one node's facts were changed.
use Rattle.std.proofs.Common.{◌≡◌, ℕ, List, Option, Some, None, refl, ap, sym, ◌∙◌, subst, inl, inr}
use Rattle.std.proofs.lemmas.Bool.{cases_eq}
use Rattle.node_trees.specs.Facts.{Facts}
use Rattle.node_trees.specs.declared.kind.NodeKind.{NodeKind}
use Rattle.node_trees.specs.Trees.{Trees, with_facts}
use Rattle.node_trees.specs.Spots.{Spot, spot, spot_at, or_no_spot, kind_at, parent_at, children_at}
use Rattle.tree_laws.proofs.Changed.{changed, spot-with-other, spot-with-here}

changed-keeps : (A : Type 0) (g : Spot → A) (c : Facts → Facts) → ((s : Spot) → g (record s { facts = c s.facts }) ≡ g s) → (o : Option Spot)
    → g (or_no_spot (changed c o)) ≡ g (or_no_spot o)
changed-keeps A g c keeps None = refl
changed-keeps A g c keeps (Some s) = keeps s

module _ (n : ℕ) (c : Facts → Facts) (f : Trees) where
  -- a read that takes no heed of the change
  pub read-with : (A : Type 0) (g : Spot → A) → ((s : Spot) → g (record s { facts = c s.facts }) ≡ g s) → (i : ℕ)
      → g (spot_at (with_facts n c f) i) ≡ g (spot_at f i)
  read-with A g keeps i = elim (cases_eq i n) [
    | inl e ↦ subst (λ v. g (spot_at (with_facts n c f) v) ≡ g (spot_at f v)) (sym e)
        (ap (λ o. g (or_no_spot o)) (spot-with-here n c None None f) ∙ changed-keeps A g c keeps (spot f n))
    | inr ne ↦ ap (λ o. g (or_no_spot o)) (spot-with-other n c None None i f ne)
  ]

  pub parent_at-with : (i : ℕ) → parent_at (with_facts n c f) i ≡ parent_at f i
  parent_at-with = read-with (Option ℕ) (λ s. s.parent) (λ s. refl)

  pub children_at-with : (i : ℕ) → children_at (with_facts n c f) i ≡ children_at f i
  children_at-with = read-with (List ℕ) (λ s. s.children) (λ s. refl)

  pub kind_at-with : ((x : Facts) → (c x).kind ≡ x.kind) → (i : ℕ) → kind_at (with_facts n c f) i ≡ kind_at f i
  kind_at-with keeps = read-with NodeKind (λ s. s.facts.kind) (λ s. keeps s.facts)
