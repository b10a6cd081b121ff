-- One step of a way through the trees.
use Rattle.std.specs.Prelude.{◌≡◌, ℕ, List, [], ◌∷◌, ◌++◌, Option, Some, None}
use Rattle.std.specs.Option.{option_or}
use Rattle.node_trees.specs.Trees.{Trees, tree_of}
use Rattle.node_trees.specs.Spots.{Spot}
use Rattle.node_trees.specs.Orders.{order}
use Rattle.node_trees.specs.Paths.{path}
use Rattle.node_trees.specs.Nodes.{IsNode}

-- the parent, or the host
abbrev pub above : Spot → Option ℕ
above s = option_or s.parent s.host

-- what is above n, if anything is: the path of n is that of it, with n behind
abbrev pub IsUp : Trees → ℕ → Option ℕ → Type 0
IsUp forest n None = path n forest ≡ n ∷ []
IsUp forest n (Some q) = IsNode forest q × (path n forest ≡ path q forest ++ (n ∷ []))

-- the shadow-including orders of these nodes, one after another
abbrev pub orders : Trees → List ℕ → List ℕ
orders f [] = []
orders f (n ∷ ns) = order (tree_of n f) ++ orders f ns

abbrev pub AreNodes : Trees → List ℕ → Type 0
AreNodes f [] = Unit {0}
AreNodes f (n ∷ ns) = IsNode f n × AreNodes f ns
