-- Tree order of one node's tree, walked by first child, next sibling and parent: no stack, and the walk stays inside that tree.
use Rattle.std.proofs.Common.{◌≡◌, ◌≢◌, ℕ, true, Option, Some, None, ap, sym, ◌∙◌, subst, arith}
use Rattle.std.proofs.lemmas.Bool.Decides.{nat_tests}
use Rattle.std.specs.Option.{option_or}
use Rattle.node_trees.specs.Trees.{Trees, tree_of}
use Rattle.node_trees.specs.Nodes.{IsNode, IsTidy}
use Rattle.node_trees.specs.Orders.{tree_order, tree_order_of}
use Rattle.node_trees.specs.Paths.{is_among}
use Rattle.node_trees.specs.Spots.{spot_of, spot_in, parent_at, first_child_at, next_sibling_at, after}
use Rattle.tree_laws.proofs.InOrder.{order-inside}
use Rattle.tree_laws.proofs.Sums.{tidy-apart}
use Rattle.tree_laws.proofs.Inside.{Found, found, tree_apart}
use Rattle.tree_laws.proofs.Next.{beyond, next_is, Below, climb_tree}
use Rattle.tree_laws.proofs.AtNode.{node_stands, parent_at-is, first_child_at-is, next_sibling_at-is}
use Rattle.node_trees.proofs.Weights.{IsApart}

-- what the tree order of root's tree has after all that is below n
abbrev pub beyond_in : Trees → ℕ → ℕ → Option ℕ
beyond_in f root n = beyond n (tree_of root f)

-- n's parent, and how the walk goes on from n past all that is below n
pub record Parented (f : Trees) (root n : ℕ) : Type 0 where
  pub parent : ℕ
  pub parent_is : parent_at f n ≡ Some parent
  pub among : is_among parent (tree_order_of f root) ≡ true
  pub beyond_is : beyond_in f root n ≡ option_or (next_sibling_at f n) (beyond_in f root parent)

module _ (f : Trees) (root : ℕ) (tidy : IsTidy f) (is : IsNode f root) where
  found_root : Found None None root f
  found_root = found None None root f (tidy-apart f tidy) (node_stands f root tidy is)

  -- first its first child; where it has none, what is beyond it
  pub after-is : (n : ℕ) → is_among n (tree_order_of f root) ≡ true → after n (tree_order_of f root) ≡ option_or (first_child_at f n) (beyond_in f root n)
  after-is n among =
      let low = order-inside n (tree_of root f) among in
      let apart = tree_apart root f (tidy-apart f tidy) in
      let it = found found_root.parent found_root.host n (tree_of root f) apart low in
      let row = spot_of it.facts it.parent it.host it.shadow it.children in
      let here = found_root.inside n low ∙ it.spot_is in
      next_is found_root.parent found_root.host n (tree_of root f) row apart among it.spot_is
      ∙ ap (λ v. option_or v (beyond_in f root n)) (sym (first_child_at-is f n row here))

  -- nothing is beyond the root
  pub beyond-root : beyond_in f root root ≡ None
  beyond-root = let e = found_root.tree_is in rw e (grind (arith, nat_tests))

  -- each other node has a parent in the tree: beyond it is its next sibling; where it has none, what is beyond its parent
  pub beyond-is : (n : ℕ) → n ≢ root → is_among n (tree_order_of f root) ≡ true → Parented f root n
  beyond-is n ne among =
      let low = order-inside n (tree_of root f) among in
      let apart = tree_apart root f (tidy-apart f tidy) in
      let it = found found_root.parent found_root.host n (tree_of root f) apart low in
      let row = spot_of it.facts it.parent it.host it.shadow it.children in
      let here = found_root.inside n low ∙ it.spot_is in
      let e = found_root.tree_is in
      let b : Below found_root.parent found_root.host n (tree_of root f) row =
      subst (λ (t : Trees). IsApart t → is_among n (tree_order t) ≡ true → spot_in found_root.parent found_root.host n t ≡ Some row
      → Below found_root.parent found_root.host n t row) (sym e)
      (λ a o w. climb_tree found_root.parent found_root.host n root found_root.facts found_root.shadow found_root.children row a (λ v. ne (sym v)) o w) apart
      among it.spot_is in
      let parent_is = parent_at-is f n row here ∙ b.parent_is in
      let above = found_root.inside b.parent (order-inside b.parent (tree_of root f) b.among) ∙ b.spot_is in
      record {
        parent = b.parent;
        parent_is = parent_is;
        among = b.among;
        beyond_is = rw (next_sibling_at-is f n b.parent b.above parent_is above) b.beyond_is;
      }

  -- the steps of the walk

  pub beyond-parent : (n p : ℕ) → n ≢ root → is_among n (tree_order_of f root) ≡ true → next_sibling_at f n ≡ None → parent_at f n ≡ Some p
      → beyond_in f root n ≡ beyond_in f root p
  beyond-parent n p ne among next up =
      let b = beyond-is n ne among in
      let e = b.parent_is in
      let same : b.parent ≡ p = cc in
      b.beyond_is ∙ ap (λ v. option_or v (beyond_in f root b.parent)) next ∙ ap (beyond_in f root) same

  pub among-parent : (n p : ℕ) → n ≢ root → is_among n (tree_order_of f root) ≡ true → parent_at f n ≡ Some p → is_among p (tree_order_of f root) ≡ true
  among-parent n p ne among up =
      let b = beyond-is n ne among in
      let e = b.parent_is in
      let same : b.parent ≡ p = cc in
      subst (λ v. is_among v (tree_order_of f root) ≡ true) same b.among

  pub parent-there : (n : ℕ) → n ≢ root → is_among n (tree_order_of f root) ≡ true → parent_at f n ≢ None
  parent-there n ne among gone = let b = beyond-is n ne among in let e = b.parent_is in absurd (cc)
