-- Who is in the tree of a node: by its parent, up to the root of the walk.
use Rattle.std.proofs.Common.{◌≡◌, ◌≢◌, ℕ, true, false, ◌<◌, Option, Some, None, ap, sym, ◌∙◌, arith, length}
use Rattle.std.specs.Cmp.Derive.{one_truth}
use Rattle.std.proofs.lemmas.Bool.Decides.{nat_tests}
use Rattle.node_trees.specs.Trees.{Trees, none, tree, roots, tree_of}
use Rattle.node_trees.specs.Nodes.{IsNode, IsTidy}
use Rattle.node_trees.specs.Orders.{tree_order, tree_order_of}
use Rattle.node_trees.specs.Paths.{path, is_among}
use Rattle.node_trees.specs.Spots.{Spot, spot_of, spot_in, parent_at}
use Rattle.node_trees.proofs.Absent.{is_among-append}
use Rattle.node_trees.proofs.Weights.{IsApart}
use Rattle.tree_laws.proofs.Above.{parent-above}
use Rattle.tree_laws.proofs.AtNode.{node_stands, children_at-is}
use Rattle.tree_laws.proofs.Children.{among-root}
use Rattle.tree_laws.proofs.Following.{among-parent, parent-there}
use Rattle.tree_laws.proofs.InOrder.{order-inside}
use Rattle.tree_laws.proofs.Inside.{found, tree_apart}
use Rattle.tree_laws.proofs.Next.{order-absent}
use Rattle.tree_laws.proofs.Parents.{parent-child}
use Rattle.tree_laws.proofs.Pieces.{spot-here, spot-children, spot-rest}
use Rattle.tree_laws.proofs.Sums.{tidy-apart, apart-children, apart-rest, here, in_shadow, in_children, in_rest, stands_where}

root-among : (c : ℕ) (f : Trees) → is_among c (roots f) ≡ true → is_among c (tree_order f) ≡ true
root-among c none h = absurd cc
root-among c (tree m x s k r) h = grind (arith, nat_tests, root-among c r, is_among-append c (tree_order k) (tree_order r))

-- a child of a node of the order is in it too
child-among : (p h : Option ℕ) (q c : ℕ) (f : Trees) (up : Spot) → IsApart f → is_among q (tree_order f) ≡ true → spot_in p h q f ≡ Some up
    → is_among c up.children ≡ true → is_among c (tree_order f) ≡ true
child-among p h q c none up apart among is child = absurd cc
child-among p h q c (tree m x s k r) up apart among is child = elim (stands_where q m x s k r apart (order-inside q (tree m x s k r) among)) [
  | here e a b z ↦
      let same : spot_of x p h s k ≡ up = let it = spot-here p h q m x s k r e in cc in
      let in_k = root-among c k (ap (λ (v : Spot). is_among c v.children) same ∙ child) in
      grind (arith, nat_tests, in_k, is_among-append c (tree_order k) (tree_order r))
  | in_shadow ne a b z ↦ absurd (grind (arith, nat_tests, order-absent q k b, order-absent q r z, is_among-append q (tree_order k) (tree_order r)))
  | in_children ne a b z ↦
      let q_in : is_among q (tree_order k) ≡ true = grind (arith, nat_tests, order-absent q r z, is_among-append q (tree_order k) (tree_order r)) in
      let on = child-among (Some m) None q c k up (apart-children m x s k r apart) q_in (sym (spot-children p h q m x s k r ne a z) ∙ is) child in
      grind (arith, nat_tests, on, is_among-append c (tree_order k) (tree_order r))
  | in_rest ne a b z ↦
      let q_in : is_among q (tree_order r) ≡ true = grind (arith, nat_tests, order-absent q k b, is_among-append q (tree_order k) (tree_order r)) in
      let on = child-among p h q c r up (apart-rest m x s k r apart) q_in (sym (spot-rest p h q m x s k r ne a b) ∙ is) child in
      grind (arith, nat_tests, on, is_among-append c (tree_order k) (tree_order r))
]

module _ (f : Trees) (root : ℕ) (tidy : IsTidy f) (is : IsNode f root) (n : ℕ) where
  pub member-root : n ≡ root → true ≡ is_among n (tree_order_of f root)
  member-root e = sym (ap (λ v. is_among v (tree_order_of f root)) e ∙ among-root f root tidy is)

  module _ (ne : n ≢ root) where
    pub member-none : None ≡ parent_at f n → false ≡ is_among n (tree_order_of f root)
    member-none gone = one_truth false (is_among n (tree_order_of f root)) (λ h. absurd cc) (λ h. absurd (parent-there f root tidy is n ne h (sym gone)))

    pub member-parent : (p : ℕ) → Some p ≡ parent_at f n → is_among n (tree_order_of f root) ≡ is_among p (tree_order_of f root)
    member-parent p up = one_truth (is_among n (tree_order_of f root)) (is_among p (tree_order_of f root)) (λ h. among-parent f root tidy is n p ne h (sym up))
        (λ among.
        let its_tree = found None None root f (tidy-apart f tidy) (node_stands f root tidy is) in
        let low = order-inside p (tree_of root f) among in
        let it = found its_tree.parent its_tree.host p (tree_of root f) (tree_apart root f (tidy-apart f tidy)) low in
        let row = spot_of it.facts it.parent it.host it.shadow it.children in
        child-among its_tree.parent its_tree.host p n (tree_of root f) row (tree_apart root f (tidy-apart f tidy)) among it.spot_is
        (sym (ap (is_among n) (children_at-is f p row (its_tree.inside p low ∙ it.spot_is))) ∙ parent-child f tidy n p (sym up)))

pub member-less : (f : Trees) (n p : ℕ) → IsTidy f → IsNode f n → Some p ≡ parent_at f n → length (path p f) < length (path n f)
member-less f n p tidy at up = (parent-above f n p tidy at (sym up)).nearer
