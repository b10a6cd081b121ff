-- What is read at a node of a forest.
use Rattle.std.proofs.Common.{◌≡◌, ℕ, ◌<◌, Some, None, ap, arith}
use Rattle.node_trees.specs.Trees.{Trees}
use Rattle.node_trees.specs.Nodes.{times, IsNode, IsTidy}
use Rattle.node_trees.specs.Spots.{Spot, spot_of, spot, spot_at, facts_at, parent_at, host_at, children_at, first_of, first_child_at, next_sibling_at, after}
use Rattle.node_trees.specs.Spots.{or_no_spot}
use Rattle.tree_laws.proofs.Sums.{tidy-apart}
use Rattle.tree_laws.proofs.Inside.{found}

pub node_stands : (f : Trees) (n : ℕ) → IsTidy f → IsNode f n → 0 < times n f
node_stands f n tidy node = omega (arith, tidy.once n node)

-- something stands at n
pub record HasSpot (f : Trees) (n : ℕ) : Type 0 where
  pub row : Spot
  pub is : spot f n ≡ Some row

pub node_spot : (f : Trees) (n : ℕ) → IsTidy f → IsNode f n → HasSpot f n
node_spot f n tidy node =
    let it = found None None n f (tidy-apart f tidy) (node_stands f n tidy node) in
    record { row = spot_of it.facts it.parent it.host it.shadow it.children; is = it.spot_is }

module _ (f : Trees) (n : ℕ) (row : Spot) (is : spot f n ≡ Some row) where
  pub spot_at-is : spot_at f n ≡ row
  spot_at-is = ap or_no_spot is

  pub facts_at-is : facts_at f n ≡ row.facts
  facts_at-is = ap (λ (v : Spot). v.facts) spot_at-is

  pub parent_at-is : parent_at f n ≡ row.parent
  parent_at-is = ap (λ (v : Spot). v.parent) spot_at-is

  pub host_at-is : host_at f n ≡ row.host
  host_at-is = ap (λ (v : Spot). v.host) spot_at-is

  pub children_at-is : children_at f n ≡ row.children
  children_at-is = ap (λ (v : Spot). v.children) spot_at-is

  pub first_child_at-is : first_child_at f n ≡ first_of row.children
  first_child_at-is = ap first_of children_at-is

pub next_sibling_at-is : (f : Trees) (n p : ℕ) (up : Spot) → parent_at f n ≡ Some p → spot f p ≡ Some up → next_sibling_at f n ≡ after n up.children
next_sibling_at-is f n p up e is = rw e (ap (after n) (children_at-is f p up is))
