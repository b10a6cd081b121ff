-- The trees below a node are parts of the forest.
use Rattle.std.proofs.Common.{◌≡◌, ℕ, ◌<◌, Option, Some, None, refl, ◌∙◌, subst, arith}
use Rattle.std.proofs.lemmas.Bool.Decides.{nat_tests}
use Rattle.node_trees.specs.Facts.{Facts}
use Rattle.node_trees.specs.Trees.{Trees, none, tree}
use Rattle.node_trees.specs.Spots.{spot_of, spot_in, spot}
use Rattle.node_trees.specs.Nodes.{times, IsNode, IsTidy}
use Rattle.tree_laws.proofs.Sums.{tidy-apart, apart-children, apart-rest, times-without}
use Rattle.tree_laws.proofs.Pieces.{spot-here, spot-children, spot-rest}
use Rattle.tree_laws.proofs.Inside.{Found, tree_apart}
use Rattle.node_trees.proofs.Weights.{IsApart}

-- these trees are a part of the forest, with this parent and this host above them
pub record IsPartAt (f : Trees) (p h : Option ℕ) (g : Trees) : Type 0 where
  pub apart : IsApart g
  pub nodes : (i : ℕ) → 0 < times i g → IsNode f i
  pub spots : (i : ℕ) → 0 < times i g → spot f i ≡ spot_in p h i g

module _ (f : Trees) (p h : Option ℕ) (m : ℕ) (x : Facts) (s k r : Trees) (part : IsPartAt f p h (tree m x s k r)) where
  pub part_here : spot f m ≡ Some (spot_of x p h s k)
  part_here = part.spots m (grind (arith, nat_tests)) ∙ spot-here p h m m x s k r refl

  pub part_children : IsPartAt f (Some m) None k
  part_children = record {
    apart = apart-children m x s k r part.apart;
    nodes = λ i low. part.nodes i (omega (arith, low));
    spots = λ i low.
        let one = part.apart i in
        part.spots i (omega (arith, low)) ∙ spot-children p h i m x s k r (grind (arith, nat_tests)) (grind (arith, nat_tests)) (grind (arith, nat_tests));
  }

  pub part_rest : IsPartAt f p h r
  part_rest = record {
    apart = apart-rest m x s k r part.apart;
    nodes = λ i low. part.nodes i (omega (arith, low));
    spots = λ i low.
        let one = part.apart i in
        part.spots i (omega (arith, low)) ∙ spot-rest p h i m x s k r (grind (arith, nat_tests)) (grind (arith, nat_tests)) (grind (arith, nat_tests));
  }

-- the trees of a node's children are a part of the forest
pub children_part : (f : Trees) (n : ℕ) → IsTidy f → (it : Found None None n f) → IsPartAt f (Some n) None it.children
children_part f n tidy it = part_children f it.parent it.host n it.facts it.shadow it.children none (subst (IsPartAt f it.parent it.host) it.tree_is (record {
  apart = tree_apart n f (tidy-apart f tidy);
  nodes = λ i low. tidy.only i (omega (arith, low, times-without i n f (tidy-apart f tidy n)));
  spots = it.inside;
}))
