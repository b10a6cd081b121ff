-- A node that stands alone.
use Rattle.std.proofs.Common.{◌≡◌, ◌≢◌, ℕ, ◌+◌, false, Some, None, refl, ap, ◌∙◌, subst, sym, arith}
use Rattle.std.proofs.lemmas.Bool.Decides.{nat_tests}
use Rattle.node_trees.specs.Facts.{Facts}
use Rattle.node_trees.specs.Trees.{Trees, none, tree, join, single, tree_of, with_node, with_facts}
use Rattle.node_trees.specs.Spots.{spot, spot_of}
use Rattle.node_trees.specs.Orders.{order, order_of}
use Rattle.node_trees.specs.Paths.{path, is_among}
use Rattle.node_trees.specs.Nodes.{size, times, IsNode, IsTidy}
use Rattle.node_trees.specs.Links.{IsAlone}
use Rattle.tree_laws.proofs.Changed.{path-with}
use Rattle.tree_laws.proofs.ChangedReads.{parent_at-with}
use Rattle.tree_laws.proofs.NewReads.{spot-new-here}
use Rattle.tree_laws.proofs.NodeOrders.{order_step}
use Rattle.tree_laws.proofs.AtNode.{parent_at-is}
use Rattle.tree_laws.proofs.Pieces.{path-here}
use Rattle.tree_laws.proofs.Walked.{off-path, order-join}
use Rattle.tree_laws.proofs.CutSpots.{path-join-left, path-join-right}
use Rattle.tree_laws.proofs.Sizes.{new-absent, size-with_node}

-- a new root
module _ (f g : Trees) (x : Facts) (n : ℕ) (tidy : IsTidy f) (tidy_after : IsTidy g) (is : g ≡ with_node (size f + 1) x f) (number : n ≡ size f + 1) where
  there : spot g n ≡ Some (spot_of x None None none none)
  there = rw (is, number) (spot-new-here (size f + 1) x f (new-absent f tidy))

  node : IsNode g n
  node = record { low = omega arith; high = omega (arith, size-with_node (size f + 1) x f, ap size is) }

  gone : times n f ≡ 0
  gone = subst (λ v. times v f ≡ 0) (sym number) (new-absent f tidy)

  off_others : (p : ℕ) → p ≢ n → is_among n (path p (with_node n x f)) ≡ false
  off_others p ne = rw (path-join-left p f (single n x) (grind (arith, nat_tests))) (off-path n p f gone)

  pub new_alone : IsAlone g n
  new_alone = record {
    free = parent_at-is g n _ there;
    above = rw (is, sym number) (path-join-right n f (single n x) gone ∙ path-here n n x none none none refl);
    walk = order_step g n _ tidy_after node there;
    apart = λ p ne. rw (is, sym number) (off_others p ne);
  }

-- a change of a node's facts

module _ (n : ℕ) (c : Facts → Facts) where
  order-with : (f : Trees) → order (with_facts n c f) ≡ order f
  order-with none = refl
  order-with (tree m x s k r) = grind (arith, nat_tests, order-with s, order-with k, order-with r)

  order_of-with : (i : ℕ) (f : Trees) → order_of (with_facts n c f) i ≡ order_of f i
  order_of-with i none = refl
  order_of-with i (tree m x s k r) = grind (
    arith,
    nat_tests,
    order-with s,
    order-with k,
    order_of-with i s,
    order_of-with i k,
    order_of-with i r,
    order-join (tree_of i s) (join (tree_of i k) (tree_of i r)),
    order-join (tree_of i k) (tree_of i r),
    order-join (tree_of i (with_facts n c s)) (join (tree_of i (with_facts n c k)) (tree_of i (with_facts n c r))),
    order-join (tree_of i (with_facts n c k)) (tree_of i (with_facts n c r)),
  )

  pub alone-with : (f g : Trees) → g ≡ with_facts n c f → (m : ℕ) → IsAlone f m → IsAlone g m
  alone-with f g is m a = rw is (record {
    free = parent_at-with n c f m ∙ a.free;
    above = path-with n c m f ∙ a.above;
    walk = order_of-with m f ∙ a.walk;
    apart = λ p ne. ap (is_among m) (path-with n c p f) ∙ a.apart p ne;
  })

pub alone-same : (f g : Trees) → g ≡ f → (m : ℕ) → IsAlone f m → IsAlone g m
alone-same f g is m a = rw is a
