-- Parents, children and siblings; and a tree order from its first node on.
use Rattle.std.proofs.Common.{◌≡◌, ◌≢◌, ℕ, true, ◌<◌, ◌≤◌, List, [], ◌∷◌, ◌++◌, Option, Some, None, refl, ap, sym, ◌∙◌, subst, arith}
use Rattle.std.specs.Option.{IfSome}
use Rattle.std.proofs.lemmas.Bool.Decides.{nat_tests}
use Rattle.node_trees.specs.Facts.{Facts}
use Rattle.node_trees.specs.Trees.{Trees, none, tree, roots, tree_of}
use Rattle.node_trees.specs.Nodes.{times, IsNode, IsNodeOrNone, IsTidy}
use Rattle.node_trees.specs.Orders.{tree_order, tree_order_of}
use Rattle.node_trees.specs.Paths.{is_among}
use Rattle.node_trees.specs.Spots.{Spot, spot_of, spot_in, parent_at, children_at, first_of, after}
use Rattle.node_trees.proofs.Weights.{IsApart}
use Rattle.tree_laws.proofs.Sums.{tidy-apart, apart-shadow, apart-children, apart-rest, here, in_shadow, in_children, in_rest, stands_where}
use Rattle.tree_laws.proofs.Pieces.{spot-here, spot-shadow, spot-children, spot-rest}
use Rattle.tree_laws.proofs.Counts.{AreApart, count, count-append}
use Rattle.tree_laws.proofs.Inside.{found, tree_apart}
use Rattle.tree_laws.proofs.InOrder.{member_is_node}
use Rattle.tree_laws.proofs.AtNode.{node_stands, node_spot, parent_at-is, children_at-is}

-- ---- where a child stands

-- c stands in the list of trees, under this parent and this host
pub record StandsUnder (p h : Option ℕ) (c : ℕ) (f : Trees) (parent host : Option ℕ) : Type 0 where
  pub row : Spot
  pub inside : 0 < times c f
  pub spot_is : spot_in p h c f ≡ Some row
  pub parent_is : row.parent ≡ parent
  pub host_is : row.host ≡ host

module _ (p h : Option ℕ) (c m : ℕ) (x : Facts) (s k r : Trees) (parent host : Option ℕ) (apart : IsApart (tree m x s k r)) where
  under_shadow : StandsUnder None (Some m) c s parent host → StandsUnder p h c (tree m x s k r) parent host
  under_shadow u =
      let low = u.inside in
      let one = apart c in
      record {
        row = u.row;
        inside = omega (arith, low);
        parent_is = u.parent_is;
        host_is = u.host_is;
        spot_is = spot-shadow p h c m x s k r (grind (arith, nat_tests)) (grind (arith, nat_tests)) (grind (arith, nat_tests)) ∙ u.spot_is;
      }

  under_children : StandsUnder (Some m) None c k parent host → StandsUnder p h c (tree m x s k r) parent host
  under_children u =
      let low = u.inside in
      let one = apart c in
      record {
        row = u.row;
        inside = omega (arith, low);
        parent_is = u.parent_is;
        host_is = u.host_is;
        spot_is = spot-children p h c m x s k r (grind (arith, nat_tests)) (grind (arith, nat_tests)) (grind (arith, nat_tests)) ∙ u.spot_is;
      }

  under_rest : StandsUnder p h c r parent host → StandsUnder p h c (tree m x s k r) parent host
  under_rest u =
      let low = u.inside in
      let one = apart c in
      record {
        row = u.row;
        inside = omega (arith, low);
        parent_is = u.parent_is;
        host_is = u.host_is;
        spot_is = spot-rest p h c m x s k r (grind (arith, nat_tests)) (grind (arith, nat_tests)) (grind (arith, nat_tests)) ∙ u.spot_is;
      }

pub root-inside : (c : ℕ) (f : Trees) → is_among c (roots f) ≡ true → 0 < times c f
root-inside c none among = absurd cc
root-inside c (tree m x s k r) among = grind (arith, nat_tests, root-inside c r)

-- a root of the list
pub root-stands : (p h : Option ℕ) (c : ℕ) (f : Trees) → IsApart f → is_among c (roots f) ≡ true → StandsUnder p h c f p h
root-stands p h c none apart among = absurd cc
root-stands p h c (tree m x s k r) apart among = elim (stands_where c m x s k r apart (root-inside c (tree m x s k r) among)) [
  | here e _ _ _ ↦ record {
    row = spot_of x p h s k;
    inside = grind (arith, nat_tests);
    spot_is = spot-here p h c m x s k r e;
    parent_is = refl;
    host_is = refl;
  }
  | in_shadow ne a b z ↦ absurd (grind (arith, nat_tests, root-inside c r))
  | in_children ne a b z ↦ absurd (grind (arith, nat_tests, root-inside c r))
  | in_rest ne a b low ↦ under_rest p h c m x s k r p h apart (root-stands p h c r (apart-rest m x s k r apart) (grind (arith, nat_tests)))
]

-- a child of q stands under q
pub child-stands : (p h : Option ℕ) (q c : ℕ) (f : Trees) (up : Spot) → IsApart f → 0 < times q f → spot_in p h q f ≡ Some up → is_among c up.children ≡ true
    → StandsUnder p h c f (Some q) None
child-stands p h q c none up apart pos is among = absurd (omega arith)
child-stands p h q c (tree m x s k r) up apart pos is among = elim (stands_where q m x s k r apart pos) [
  | here e _ _ _ ↦
      let same : spot_of x p h s k ≡ up = let it = spot-here p h q m x s k r e in cc in
      let children : up.children ≡ roots k = sym (ap (λ (v : Spot). v.children) same) in
      subst (λ v. StandsUnder p h c (tree m x s k r) (Some v) None) e
      (under_children p h c m x s k r (Some m) None apart (root-stands (Some m) None c k (apart-children m x s k r apart) (rw children at among)))
  | in_shadow ne a b z ↦ under_shadow p h c m x s k r (Some q) None apart
      (child-stands None (Some m) q c s up (apart-shadow m x s k r apart) a (sym (spot-shadow p h q m x s k r ne b z) ∙ is) among)
  | in_children ne a b z ↦ under_children p h c m x s k r (Some q) None apart
      (child-stands (Some m) None q c k up (apart-children m x s k r apart) b (sym (spot-children p h q m x s k r ne a z) ∙ is) among)
  | in_rest ne a b z ↦ under_rest p h c m x s k r (Some q) None apart
      (child-stands p h q c r up (apart-rest m x s k r apart) z (sym (spot-rest p h q m x s k r ne a b) ∙ is) among)
]

pub count-roots : (n : ℕ) (f : Trees) → count n (roots f) ≤ times n f
count-roots n none = omega arith
count-roots n (tree m x s k r) = omega (arith, count-roots n r)

-- no child stands twice
pub children-apart : (p h : Option ℕ) (q : ℕ) (f : Trees) (up : Spot) → IsApart f → 0 < times q f → spot_in p h q f ≡ Some up → AreApart up.children
children-apart p h q none up apart pos is = absurd (omega arith)
children-apart p h q (tree m x s k r) up apart pos is = elim (stands_where q m x s k r apart pos) [
  | here e _ _ _ ↦
      let same : spot_of x p h s k ≡ up = let it = spot-here p h q m x s k r e in cc in
      let children : roots k ≡ up.children = ap (λ (v : Spot). v.children) same in
      subst AreApart children (λ i. omega (arith, apart i, count-roots i k))
  | in_shadow ne a b z ↦ children-apart None (Some m) q s up (apart-shadow m x s k r apart) a (sym (spot-shadow p h q m x s k r ne b z) ∙ is)
  | in_children ne a b z ↦ children-apart (Some m) None q k up (apart-children m x s k r apart) b (sym (spot-children p h q m x s k r ne a z) ∙ is)
  | in_rest ne a b z ↦ children-apart p h q r up (apart-rest m x s k r apart) z (sym (spot-rest p h q m x s k r ne a b) ∙ is)
]

module _ (f : Trees) (q : ℕ) (tidy : IsTidy f) (node : IsNode f q) where
  pub child-parent : (c : ℕ) → is_among c (children_at f q) ≡ true → parent_at f c ≡ Some q
  child-parent c among =
      let st = node_spot f q tidy node in
      let u = child-stands None None q c f st.row (tidy-apart f tidy) (node_stands f q tidy node) st.is
      (sym (ap (is_among c) (children_at-is f q st.row st.is)) ∙ among) in
      parent_at-is f c u.row u.spot_is ∙ u.parent_is

  pub child-node : (c : ℕ) → is_among c (children_at f q) ≡ true → IsNode f c
  child-node c among =
      let st = node_spot f q tidy node in
      let u = child-stands None None q c f st.row (tidy-apart f tidy) (node_stands f q tidy node) st.is
      (sym (ap (is_among c) (children_at-is f q st.row st.is)) ∙ among) in
      tidy.only c u.inside

  pub children_at-apart : AreApart (children_at f q)
  children_at-apart =
      let st = node_spot f q tidy node in
      subst AreApart (sym (children_at-is f q st.row st.is)) (children-apart None None q f st.row (tidy-apart f tidy) (node_stands f q tidy node) st.is)

-- ---- what follows in a list

-- what follows n in a list in which no number stands twice
pub after-split : (n : ℕ) (front back : List ℕ) → AreApart (front ++ (n ∷ back)) → after n (front ++ (n ∷ back)) ≡ first_of back
after-split n [] back apart = grind (arith, nat_tests)
after-split n (m ∷ ms) back apart =
    let other : m ≢ n = λ e. let one = apart n in let split = count-append n ms (n ∷ back) in absurd (grind (arith, nat_tests)) in
    let on = after-split n ms back (λ i. omega (arith, apart i)) in
    grind (arith, nat_tests)

-- what follows a number of a list stands in it
pub after-among : (n d : ℕ) (ms : List ℕ) → after n ms ≡ Some d → is_among d ms ≡ true
after-among n d [] h = cc
after-among n d (m ∷ []) h = grind (arith, nat_tests)
after-among n d (m ∷ j ∷ ms) h = grind (arith, nat_tests, after-among n d (j ∷ ms))

-- ---- tree order

pub count-order : (n : ℕ) (f : Trees) → count n (tree_order f) ≤ times n f
count-order n none = omega arith
count-order n (tree m x s k r) = omega (arith, count-order n k, count-order n r, count-append n (tree_order k) (tree_order r))

-- no tree order names a node twice
pub order-apart : (f : Trees) → IsApart f → AreApart (tree_order f)
order-apart f apart i = omega (arith, apart i, count-order i f)

module _ (f : Trees) (root : ℕ) (tidy : IsTidy f) where
  pub tree_order-apart : AreApart (tree_order_of f root)
  tree_order-apart = order-apart (tree_of root f) (tree_apart root f (tidy-apart f tidy))

  -- what follows in tree order is in it, and a node

  pub next-inside : (n : ℕ) (o : Option ℕ) → o ≡ after n (tree_order_of f root) → IfSome o (λ d. is_among d (tree_order_of f root) ≡ true)
  next-inside n None e = tt
  next-inside n (Some d) e = after-among n d (tree_order_of f root) (sym e)

  pub next-node : (n : ℕ) (o : Option ℕ) → o ≡ after n (tree_order_of f root) → IsNodeOrNone f o
  next-node n None e = tt
  next-node n (Some d) e = member_is_node f root d tidy (after-among n d (tree_order_of f root) (sym e))

-- the order begins with root
pub record BeginsWith (root : ℕ) (order : List ℕ) : Type 0 where
  pub rest : List ℕ
  pub is : order ≡ root ∷ rest

pub order-begins : (f : Trees) (root : ℕ) → IsTidy f → IsNode f root → BeginsWith root (tree_order_of f root)
order-begins f root tidy node =
    let it = found None None root f (tidy-apart f tidy) (node_stands f root tidy node) in
    record { rest = tree_order it.children ++ []; is = ap tree_order it.tree_is }

pub among-root : (f : Trees) (root : ℕ) → IsTidy f → IsNode f root → is_among root (tree_order_of f root) ≡ true
among-root f root tidy node = let it = order-begins f root tidy node in rw it.is (grind (arith, nat_tests))
