-- A node that has a parent is among the children of that parent.
use Rattle.std.proofs.Common.{◌≡◌, ◌≢◌, ℕ, true, ◌<◌, Option, Some, None, ap, sym, ◌∙◌, arith, inl, inr}
use Rattle.std.proofs.lemmas.Bool.Decides.{nat_tests}
use Rattle.std.proofs.lemmas.Bool.{cases_lt}
use Rattle.node_trees.specs.Trees.{Trees, none, tree, roots, is_number}
use Rattle.node_trees.specs.Paths.{is_among}
use Rattle.node_trees.specs.Spots.{Spot, spot_of, spot_in, parent_at, children_at, or_no_spot}
use Rattle.node_trees.specs.Nodes.{times, IsNode, IsTidy}
use Rattle.node_trees.proofs.Weights.{IsApart}
use Rattle.node_trees.proofs.Absent.{spot-absent}
use Rattle.tree_laws.proofs.Sums.{tidy-apart, apart-shadow, apart-children, apart-rest, here, in_shadow, in_children, in_rest, stands_where}
use Rattle.tree_laws.proofs.Pieces.{spot-here, spot-shadow, spot-children, spot-rest}
use Rattle.tree_laws.proofs.AtNode.{node_stands, node_spot, parent_at-is, children_at-is}
use Rattle.tree_laws.proofs.Above.{parent-above}

-- in trees under p and h: c is a root where q is what they stand under, or else a child of q, which is among them
data ChildOf (p h : Option ℕ) (c q : ℕ) (f : Trees) : Type 0 where
  a_root : p ≡ Some q → is_among c (roots f) ≡ true → ChildOf p h c q f
  a_child : (up : Spot) → 0 < times q f → spot_in p h q f ≡ Some up → is_among c up.children ≡ true → ChildOf p h c q f

child_of : (p h : Option ℕ) (c q : ℕ) (f : Trees) (row : Spot) → IsApart f → 0 < times c f → spot_in p h c f ≡ Some row → row.parent ≡ Some q
    → ChildOf p h c q f
child_of p h c q none row apart there is e = absurd (omega arith)
child_of p h c q (tree m x s k r) row apart there is e =
    let one = apart q in
    elim (stands_where c m x s k r apart there) [
      | here i _ _ _ ↦
          let same : spot_of x p h s k ≡ row = let it = spot-here p h c m x s k r i in cc in
          a_root (ap (λ (v : Spot). v.parent) same ∙ e) (grind (arith, nat_tests))
      | in_shadow ne a b z ↦ elim (child_of None (Some m) c q s row (apart-shadow m x s k r apart) a (sym (spot-shadow p h c m x s k r ne b z) ∙ is) e) [
        | a_root up i ↦ absurd cc
        | a_child up low at i ↦ a_child up (omega (arith, low))
            (spot-shadow p h q m x s k r (grind (arith, nat_tests)) (grind (arith, nat_tests)) (grind (arith, nat_tests)) ∙ at) i
      ]
      | in_children ne a b z ↦ elim (child_of (Some m) None c q k row (apart-children m x s k r apart) b (sym (spot-children p h c m x s k r ne a z) ∙ is) e) [
        | a_root up i ↦
            let same : m ≡ q = cc in
            a_child (spot_of x p h s k) (grind (arith, nat_tests)) (spot-here p h q m x s k r same) i
        | a_child up low at i ↦ a_child up (omega (arith, low))
            (spot-children p h q m x s k r (grind (arith, nat_tests)) (grind (arith, nat_tests)) (grind (arith, nat_tests)) ∙ at) i
      ]
      | in_rest ne a b z ↦ elim (child_of p h c q r row (apart-rest m x s k r apart) z (sym (spot-rest p h c m x s k r ne a b) ∙ is) e) [
        | a_root up i ↦ a_root up (grind (arith, nat_tests))
        | a_child up low at i ↦ a_child up (omega (arith, low))
            (spot-rest p h q m x s k r (grind (arith, nat_tests)) (grind (arith, nat_tests)) (grind (arith, nat_tests)) ∙ at) i
      ]
    ]

module _ (f : Trees) (tidy : IsTidy f) (c q : ℕ) (up : parent_at f c ≡ Some q) where
  -- what has a parent is a node
  pub has_parent-node : IsNode f c
  has_parent-node = elim (cases_lt 0 (times c f)) [
    | inl low ↦ tidy.only c low
    | inr out ↦ absurd (let gone = ap (λ v. (or_no_spot v).parent) (spot-absent None None c f (omega arith)) in cc)
  ]

  pub parent-child : is_among c (children_at f q) ≡ true
  parent-child =
      let st = node_spot f c tidy has_parent-node in
      elim (child_of None None c q f st.row (tidy-apart f tidy) (node_stands f c tidy has_parent-node) st.is (sym (parent_at-is f c st.row st.is) ∙ up)) [
        | a_root no_up i ↦ absurd cc
        | a_child row low at i ↦ ap (is_among c) (children_at-is f q row at) ∙ i
      ]

  -- and it is not its own parent
  pub parent-other : q ≢ c
  parent-other e = let above = (parent-above f c q tidy has_parent-node up).nearer in absurd (grind (arith, e, above))

pub number-is : (o : Option ℕ) (p : ℕ) → is_number o p ≡ true → o ≡ Some p
number-is None p h = absurd cc
number-is (Some m) p h = let e : m ≡ p = grind (arith, nat_tests) in ap Some e
