-- Who has an ID.
use Rattle.std.specs.Prelude.{◌≡◌, ℕ, true, List}
use Rattle.node_trees.specs.Ids.{has_id}
use Rattle.node_trees.specs.Nodes.{IsNode}
use Rattle.node_trees.specs.Spots.{facts_at}
use Rattle.node_trees.specs.Trees.{Trees}

-- of all nodes n alone is an element with this ID
pub record IsOnlyHolder (forest : Trees) (id : List ℕ) (n : ℕ) : Type 0 where
  pub node : IsNode forest n
  pub has : has_id id (facts_at forest n) ≡ true
  pub other : (m : ℕ) → has_id id (facts_at forest m) ≡ true → m ≡ n
