-- Nodes as they are read, and what stays where another changes.
use Rattle.std.specs.Prelude.{◌≡◌, ◌≢◌, ℕ, false, [], ◌∷◌, None, ⊤}
use Rattle.node_trees.specs.Facts.{Facts, is_element}
use Rattle.node_trees.specs.Trees.{Trees, none, tree, roots}
use Rattle.node_trees.specs.Spots.{spot_at, facts_at, parent_at, children_at}
use Rattle.node_trees.specs.Orders.{order_of}
use Rattle.node_trees.specs.Paths.{connected, is_among, path}
use Rattle.node_trees.specs.Nodes.{IsNode}

-- the trees of the root's children
abbrev pub below : Trees → Trees
below none = none
below (tree m x shadow children rest) = children

-- what is read of a node: its facts, and the numbers of its children. Only an element has children where a child can stand
pub record IsRead (forest : Trees) (m : ℕ) (x : Facts) (children : Trees) : Type 0 where
  pub node : IsNode forest m
  pub facts : facts_at forest m ≡ x
  pub numbers : children_at forest m ≡ roots children
  pub leaf : is_element x.kind ≡ false → children ≡ none

-- these trees, read node by node
abbrev pub AreRead : Trees → Trees → Type 0
AreRead forest none = ⊤
AreRead forest (tree m x shadow children rest) = IsRead forest m x children × (AreRead forest children × AreRead forest rest)

-- nothing stands above n or below it
pub record IsAlone (forest : Trees) (n : ℕ) : Type 0 where
  pub free : parent_at forest n ≡ None
  pub above : path n forest ≡ n ∷ []
  pub walk : order_of forest n ≡ n ∷ []
  pub apart : (p : ℕ) → p ≢ n → is_among n (path p forest) ≡ false

-- at each node but these two stands what stood there
abbrev pub KeepsSpots : ℕ → ℕ → Trees → Trees → Type 0
KeepsSpots a b old new = (m : ℕ) → m ≢ a → m ≢ b → spot_at new m ≡ spot_at old m

-- what was not connected is not connected now
abbrev pub KeepsApart : Trees → Trees → Type 0
KeepsApart old new = (m : ℕ) → connected old m ≡ false → connected new m ≡ false
