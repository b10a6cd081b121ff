-- What the nodes of a forest are, and that they stay so.
use Rattle.std.specs.Prelude.{◌≡◌, ℕ, ◌≤◌}
use Rattle.node_trees.specs.declared.kind.NodeKind.TheVariants.{Element}
use Rattle.node_trees.specs.Trees.{Trees}
use Rattle.node_trees.specs.Spots.{kind_at}
use Rattle.node_trees.specs.Nodes.{size, IsNode}

-- n is an element
pub record IsElement (forest : Trees) (n : ℕ) : Type 0 where
  pub node : IsNode forest n
  pub kind : kind_at forest n ≡ Element

-- each node that was there is there, and is of the same kind
pub record KeepsKinds (old new : Trees) : Type 0 where
  pub nodes : size old ≤ size new
  pub kinds : (n : ℕ) → IsNode old n → kind_at new n ≡ kind_at old n
