-- The tree of a node, and what stands in it.
use Rattle.std.proofs.Common.{◌≡◌, ℕ, ◌<◌, ◌≤◌, Option, Some, None, ap, ◌∙◌, arith}
use Rattle.std.proofs.lemmas.Bool.Decides.{nat_tests}
use Rattle.node_trees.specs.Facts.{Facts}
use Rattle.node_trees.specs.Trees.{Trees, none, tree, tree_of}
use Rattle.node_trees.specs.Nodes.{times}
use Rattle.node_trees.specs.Spots.{spot_of, spot_in}
use Rattle.tree_laws.proofs.Sums.{apart-shadow, apart-children, apart-rest, here, in_shadow, in_children, in_rest, stands_where, times-without}
use Rattle.tree_laws.proofs.Pieces.{spot-here, spot-shadow, spot-children, spot-rest, tree_of-here, tree_of-shadow, tree_of-children, tree_of-rest}
use Rattle.node_trees.proofs.Weights.{IsApart}
use Rattle.node_trees.proofs.Absent.{spot-absent}

-- the tree of n, with what stands there
pub record Found (p h : Option ℕ) (n : ℕ) (f : Trees) : Type 0 where
  pub facts : Facts
  pub parent : Option ℕ
  pub host : Option ℕ
  pub shadow : Trees
  pub children : Trees
  pub tree_is : tree_of n f ≡ tree n facts shadow children none
  pub spot_is : spot_in p h n f ≡ Some (spot_of facts parent host shadow children)
  -- and so does all that is below it
  pub inside : (i : ℕ) → 0 < times i (tree_of n f) → spot_in p h i f ≡ spot_in parent host i (tree_of n f)

pub found : (p h : Option ℕ) (n : ℕ) (f : Trees) → IsApart f → 0 < times n f → Found p h n f
found p h n none apart pos = absurd (omega arith)
found p h n (tree m x s k r) apart pos =
    let less : (i : ℕ) (g : Trees) → times n g ≤ 1 → times i (tree_of n g) ≤ times i g = λ i g one. omega (arith, times-without i n g one) in
    let one_n = apart n in
    elim (stands_where n m x s k r apart pos) [
      | here e _ _ _ ↦
          let is = tree_of-here n m x s k r e in
          record {
            facts = x;
            parent = p;
            host = h;
            shadow = s;
            children = k;
            tree_is = is ∙ ap (λ v. tree v x s k none) e;
            spot_is = spot-here p h n m x s k r e;
            inside = λ i low.
                let one_i = apart i in
                let low : 0 < times i (tree m x s k none) = rw is at low in
                rw is (grind (arith, nat_tests, spot-absent p h i r (omega arith)));
          }
      | in_shadow ne a b c ↦
          let is = tree_of-shadow n m x s k r ne b c in
          let it = found None (Some m) n s (apart-shadow m x s k r apart) a in
          record {
            facts = it.facts;
            parent = it.parent;
            host = it.host;
            shadow = it.shadow;
            children = it.children;
            tree_is = is ∙ it.tree_is;
            spot_is = spot-shadow p h n m x s k r ne b c ∙ it.spot_is;
            inside = λ i low.
                let one_i = apart i in
                let low : 0 < times i (tree_of n s) = rw is at low in
                let less_i = less i s (omega arith) in
                rw is (spot-shadow p h i m x s k r (grind (arith, nat_tests)) (grind (arith, nat_tests)) (grind (arith, nat_tests)) ∙ it.inside i low);
          }
      | in_children ne a b c ↦
          let is = tree_of-children n m x s k r ne a c in
          let it = found (Some m) None n k (apart-children m x s k r apart) b in
          record {
            facts = it.facts;
            parent = it.parent;
            host = it.host;
            shadow = it.shadow;
            children = it.children;
            tree_is = is ∙ it.tree_is;
            spot_is = spot-children p h n m x s k r ne a c ∙ it.spot_is;
            inside = λ i low.
                let one_i = apart i in
                let low : 0 < times i (tree_of n k) = rw is at low in
                let less_i = less i k (omega arith) in
                rw is (spot-children p h i m x s k r (grind (arith, nat_tests)) (grind (arith, nat_tests)) (grind (arith, nat_tests)) ∙ it.inside i low);
          }
      | in_rest ne a b c ↦
          let is = tree_of-rest n m x s k r ne a b in
          let it = found p h n r (apart-rest m x s k r apart) c in
          record {
            facts = it.facts;
            parent = it.parent;
            host = it.host;
            shadow = it.shadow;
            children = it.children;
            tree_is = is ∙ it.tree_is;
            spot_is = spot-rest p h n m x s k r ne a b ∙ it.spot_is;
            inside = λ i low.
                let one_i = apart i in
                let low : 0 < times i (tree_of n r) = rw is at low in
                let less_i = less i r (omega arith) in
                rw is (spot-rest p h i m x s k r (grind (arith, nat_tests)) (grind (arith, nat_tests)) (grind (arith, nat_tests)) ∙ it.inside i low);
          }
    ]

-- no number stands twice in the tree of n
pub tree_apart : (n : ℕ) (f : Trees) → IsApart f → IsApart (tree_of n f)
tree_apart n f apart i = omega (arith, times-without i n f (apart n), apart i)
