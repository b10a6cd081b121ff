-- Loops up from a node.
use Rattle.std.proofs.Common.{◌≡◌, ℕ, Bool, false, cond, Some, None, refl, sym}
use Rattle.std.specs.Prelude.{find, ◌||◌}
use Rattle.std.specs.List.{list_any}
use Rattle.node_trees.specs.Trees.{Trees}
use Rattle.node_trees.specs.Nodes.{IsNode, IsTidy}
use Rattle.node_trees.specs.Spots.{parent_at}
use Rattle.form_controls.specs.Owners.{ancestors}
use Rattle.owner_reading.proofs.Ancestors.{ancestors-up, ancestors-top}

module _ (f : Trees) (n : ℕ) (tidy : IsTidy f) (node : IsNode f n) where
  module _ (p : ℕ → Bool) where
    pub find-up : (q : ℕ) → Some q ≡ parent_at f n → find p (ancestors f n) ≡ cond (p q) (Some q) (find p (ancestors f q))
    find-up q e = rw (ancestors-up f n tidy node q (sym e)) refl

    pub find-top : None ≡ parent_at f n → find p (ancestors f n) ≡ None
    find-top e = rw (ancestors-top f n tidy node (sym e)) refl

    pub any-up : (q : ℕ) → Some q ≡ parent_at f n → list_any p (ancestors f n) ≡ (p q || list_any p (ancestors f q))
    any-up q e = rw (ancestors-up f n tidy node q (sym e)) refl

    pub any-top : None ≡ parent_at f n → list_any p (ancestors f n) ≡ false
    any-top e = rw (ancestors-top f n tidy node (sym e)) refl
