-- What is said of which node.
use Rattle.std.specs.Prelude.{ℕ, Bool, ◌==◌, if◌then◌else◌, List, [], ◌∷◌, Option, Some, None, All, map}
use Rattle.std.specs.List.Sorted.{IsStrictlyIncreasing}
use Rattle.node_trees.specs.Nodes.{IsNode}
use Rattle.node_trees.specs.Trees.{Trees}
use Rattle.form_controls.specs.declared.change.Change.{Change}

-- it is said of n
abbrev pub is_of : ℕ → Change → Bool
is_of n c = c.node == n

-- a change, where it is said of n
abbrev pub if_of : ℕ → Option Change → List Change
if_of n None = []
if_of n (Some c) = if is_of n c then c ∷ [] else []

-- at most one change is said of a node, and they come in the order of the nodes' numbers
abbrev pub AreRising : List Change → Type 0
AreRising cs = IsStrictlyIncreasing (map (λ (c : Change). c.node) cs)

-- and they are said of nodes that there are
pub record AreOfNodes (forest : Trees) (cs : List Change) : Type 0 where
  pub rising : AreRising cs
  pub nodes : All (λ (c : Change). IsNode forest c.node) cs
