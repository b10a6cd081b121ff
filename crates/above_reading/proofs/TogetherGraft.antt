-- What a test finds in the order of one tree, of those that are in one tree before an insertion and in one tree after it, stays:
-- the removal that undoes the insertion keeps it.
use Rattle.std.proofs.Common.{◌≡◌, ℕ, Bool, Option, None, ap, sym, ◌∙◌}
use Rattle.std.specs.Prelude.{filter}
use Rattle.node_trees.specs.Trees.{Trees, cut, graft}
use Rattle.node_trees.specs.Insertion.{may_insert}
use Rattle.node_trees.specs.Nodes.{IsNode, IsTidy}
use Rattle.node_trees.specs.Orders.{tree_order_of}
use Rattle.node_trees.specs.Paths.{root_at}
use Rattle.node_trees.specs.Spots.{parent_at}
use Rattle.tree_laws.proofs.AllowedGraft.{allowed-tidy}
use Rattle.above_reading.proofs.PutBack.{graft-node, graft-up, cut-graft}
use Rattle.above_reading.proofs.TogetherCut.{AreTogether, together-cut}

module _ (f : Trees) (p n : ℕ) (b : Option ℕ) (tidy : IsTidy f) (is_p : IsNode f p) (is_n : IsNode f n) (may : may_insert f p n b ≡ None)
    (free : parent_at f n ≡ None) (g : ℕ) (at : IsNode f g) (q : ℕ → Bool) (together : AreTogether q f (graft f p n b) g) where
  -- the same, seen from the trees after the insertion
  together-back : AreTogether q (graft f p n b) (cut (graft f p n b) n) g
  together-back m passes =
      let it = together m passes in
      let back = cut-graft f p n b tidy is_p is_n may free in
      (graft-node f p n b tidy is_p is_n may free m it.0, (it.1.1, ap (λ v. root_at v m) back ∙ it.1.0 ∙ sym (ap (λ v. root_at v g) back)))

  pub together-graft : filter q (tree_order_of (graft f p n b) (root_at (graft f p n b) g)) ≡ filter q (tree_order_of f (root_at f g))
  together-graft =
      sym (ap (λ v. filter q (tree_order_of v (root_at v g))) (sym (cut-graft f p n b tidy is_p is_n may free))
      ∙ together-cut (graft f p n b) n p (allowed-tidy f p n b tidy is_p is_n may) (graft-node f p n b tidy is_p is_n may free n is_n)
      (graft-up f p n b tidy is_p is_n may free) g (graft-node f p n b tidy is_p is_n may free g at) q together-back)
