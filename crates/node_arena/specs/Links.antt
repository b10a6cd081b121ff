-- Nodes that are linked by their numbers, and the forest that the links say.
use Rattle.std.specs.Prelude.{◌≡◌, ℕ, ◌-◌, List, [], length, slice_get, Option, Some, None}
use Rattle.node_trees.specs.Facts.{Facts}
use Rattle.node_trees.specs.Trees.{Trees}
use Rattle.node_trees.specs.Spots.{Spot, spot_at, parent_at, children_at, first_of, after}
use Rattle.node_trees.specs.Nodes.{size, IsNode, IsTidy}
use Rattle.tree_laws.specs.Beside.{before}

-- what the arena keeps of a node: its facts and the numbers of those around it; its shadow root as a list of at most one
pub record Link : Type 0 where
  pub facts : Facts
  pub parent : Option ℕ
  pub host : Option ℕ
  pub shadow : List ℕ
  pub first : Option ℕ
  pub last : Option ℕ
  pub previous : Option ℕ
  pub next : Option ℕ

-- the link of the node n; the first is that of node 1
abbrev pub link_at : List Link → ℕ → Option Link
link_at links n = slice_get links (n - 1)

-- the children of this parent; a root stands among none
abbrev pub children_of : Trees → Option ℕ → List ℕ
children_of f None = []
children_of f (Some p) = children_at f p

-- what is kept of the node n, which has this spot and these siblings
abbrev pub link_of : ℕ → Spot → List ℕ → Link
link_of n s siblings = record {
  facts = s.facts;
  parent = s.parent;
  host = s.host;
  shadow = s.shadow;
  first = first_of s.children;
  last = before None s.children;
  previous = before (Some n) siblings;
  next = after n siblings;
}

abbrev pub link_in : Trees → ℕ → Link
link_in f n = link_of n (spot_at f n) (children_of f (parent_at f n))

-- the links are those of the forest
pub record IsLinked (links : List Link) (forest : Trees) : Type 0 where
  pub tidy : IsTidy forest
  pub counted : size forest ≡ length links
  pub linked : (n : ℕ) → IsNode forest n → link_at links n ≡ Some (link_in forest n)
