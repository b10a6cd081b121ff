-- Nodes that are linked by their numbers, as rows, and the forest that rows stand for.
use Rattle.std.specs.Prelude.{◌≡◌, ◌≢◌, ℕ, zero, suc, ◌++◌, ◌+◌, ◌-◌, ◌<◌, List, [], ◌∷◌, length, slice_get, Option, Some, None, ⊤}
use Rattle.node_trees.specs.Facts.{Facts}
use Rattle.node_trees.specs.Trees.{Trees, none, tree}
use Rattle.node_trees.specs.Spots.{Spot, spot_of, spot_at}
use Rattle.node_trees.specs.Nodes.{size, IsTidy}
use Rattle.tree_laws.specs.Numbers.{remove_number, insert_number}

-- the row of the node n; the first row is that of node 1
abbrev pub row_of_node : List Spot → ℕ → Option Spot
row_of_node rows n = slice_get rows (n - 1)

-- these trees are in the rows, where what holds them is this parent or this host
abbrev pub Stands : List Spot → Option ℕ → Option ℕ → Trees → Type 0
Stands rows parent host none = ⊤
Stands rows parent host (tree m x shadow children rest) =
    (0 < m) × (row_of_node rows m ≡ Some (spot_of x parent host shadow children))
    × Stands rows None (Some m) shadow × Stands rows (Some m) None children × Stands rows parent host rest

-- the forest has a node for each row, and its nodes are as their rows say
pub record IsForest (rows : List Spot) (forest : Trees) : Type 0 where
  pub stands : Stands rows None None forest
  pub tidy : IsTidy forest
  pub counted : size forest ≡ length rows

-- what a call writes into the rows

-- n becomes a child of p, before b or as the last
pub record Grafted (rows rows' : List Spot) (p n : ℕ) (b : Option ℕ) : Type 0 where
  pub length_is : length rows' ≡ length rows
  pub moved : (row : Spot) → row_of_node rows n ≡ Some row → row_of_node rows' n ≡ Some (record row { parent = Some p })
  pub there : (row : Spot) → row_of_node rows p ≡ Some row → row_of_node rows' p ≡ Some (record row { children = insert_number b n row.children })
  pub others : (m : ℕ) → 0 < m → m ≢ n → m ≢ p → row_of_node rows' m ≡ row_of_node rows m

-- n is no child of p any more
pub record Severed (rows rows' : List Spot) (p n : ℕ) : Type 0 where
  pub length_is : length rows' ≡ length rows
  pub moved : (row : Spot) → row_of_node rows n ≡ Some row → row_of_node rows' n ≡ Some (record row { parent = None })
  pub there : (row : Spot) → row_of_node rows p ≡ Some row → row_of_node rows' p ≡ Some (record row { children = remove_number n row.children })
  pub others : (m : ℕ) → 0 < m → m ≢ n → m ≢ p → row_of_node rows' m ≡ row_of_node rows m

-- a new node with these facts, n, becomes the shadow root of h
pub record Attached (rows rows' : List Spot) (h n : ℕ) (x : Facts) : Type 0 where
  pub length_is : length rows' ≡ length rows + 1
  pub made : row_of_node rows' n ≡ Some (spot_of x None (Some h) none none)
  pub there : (row : Spot) → row_of_node rows h ≡ Some row → row_of_node rows' h ≡ Some (record row { shadow = n ∷ [] })
  pub others : (m : ℕ) → 0 < m → m ≢ n → m ≢ h → row_of_node rows' m ≡ row_of_node rows m

-- the rows of a forest, in the order of their numbers

abbrev pub rows_to : Trees → ℕ → List Spot
rows_to f zero = []
rows_to f (suc k) = rows_to f k ++ spot_at f (suc k) ∷ []

abbrev pub rows_of : Trees → List Spot
rows_of f = rows_to f (size f)
