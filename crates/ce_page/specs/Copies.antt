-- What copying nodes leaves as it was.
use Rattle.std.specs.Prelude.{◌≡◌, ◌≢◌, ◌<◌, ℕ, Bool, true, false, List, None}
use Rattle.node_trees.specs.declared.kind.NodeKind.{NodeKind}
use Rattle.node_trees.specs.declared.kind.NodeKind.TheVariants.{Element, TextNode}
use Rattle.node_trees.specs.Facts.{Facts, is_element}
use Rattle.node_trees.specs.Trees.{Trees}
use Rattle.node_trees.specs.Spots.{spot_at, kind_at}
use Rattle.node_trees.specs.Paths.{connected, is_among}
use Rattle.node_trees.specs.Nodes.{size, IsNode}
use Rattle.node_trees.specs.Kinds.{KeepsKinds}
use Rattle.node_trees.specs.Links.{IsAlone, KeepsApart, KeepsSpots}
use Rattle.ce_algorithms.specs.Steps.{Step, ◌>>=◌, ◌>>◌, give}
use Rattle.ce_algorithms.specs.Page.{Work}
use Rattle.ce_algorithms.specs.Clone.{copy_node, copy_below}
use Rattle.ce_algorithms.specs.Mutation.{pre_insert}

-- at each node that was there stands what stood there
abbrev pub KeepsNodes : Trees → Trees → Type 0
KeepsNodes old new = (m : ℕ) → IsNode old m → spot_at new m ≡ spot_at old m

-- n is a new node of this kind, which stands alone
pub record IsFresh (old new : Trees) (kind : NodeKind) (n : ℕ) : Type 0 where
  pub later : size old < n
  pub node : IsNode new n
  pub kind_is : kind_at new n ≡ kind
  pub alone : IsAlone new n
  pub others : KeepsNodes old new
  pub apart : KeepsApart old new

-- facts of n have changed, and nothing else of the trees
pub record OnlyChanges (n : ℕ) (old new : Trees) : Type 0 where
  pub others : KeepsSpots n n old new
  pub kinds : KeepsKinds old new
  pub alone : (m : ℕ) → IsAlone old m → IsAlone new m
  pub apart : KeepsApart old new

-- of the nodes of this walk, and of no others, facts have changed
pub record OnlyMoves (walk : List ℕ) (old new : Trees) : Type 0 where
  pub others : (m : ℕ) → is_among m walk ≡ false → spot_at new m ≡ spot_at old m
  pub kinds : KeepsKinds old new
  pub apart : KeepsApart old new

-- a copy is an element, or a text
abbrev pub copied_kind : Bool → NodeKind
copied_kind true = Element
copied_kind false = TextNode

-- n is a new node, which is not connected, and of the nodes that were there p alone may have changed
pub record IsCopied (old new : Trees) (kind : NodeKind) (p n : ℕ) : Type 0 where
  pub later : size old < n
  pub node : IsNode new n
  pub kind_is : kind_at new n ≡ kind
  pub kinds : KeepsKinds old new
  pub loose : connected new n ≡ false
  pub others : (m : ℕ) → IsNode old m → m ≢ p → spot_at new m ≡ spot_at old m
  pub apart : KeepsApart old new

-- one node copied below a parent
abbrev pub copy_one : ℕ → ℕ → Facts → Step Work ℕ
copy_one parent from x = do
  n ← copy_node from x (is_element x.kind)
  pre_insert parent n None
  give n

-- a node copied, with all that is below it
abbrev pub copy_tree : ℕ → Facts → Trees → Step Work ℕ
copy_tree from x children = do
  n ← copy_node from x (is_element x.kind)
  copy_below n children
  give n
