-- Trees that read alike but for one node, which has no attributes and no children.
use Rattle.std.specs.Prelude.{◌≡◌, ◌≢◌, ℕ}
use Rattle.node_trees.specs.Trees.{Trees}
use Rattle.node_trees.specs.Nodes.{times}
use Rattle.node_trees.specs.Spots.{facts_at, parent_at, children_at, kind_at}
use Rattle.node_trees.specs.Paths.{path}
use Rattle.node_trees.specs.Orders.{tree_order_of}

-- these readings of g are those of f; n, which is no node of f, may be one of g
pub record AreAlike (n : ℕ) (f g : Trees) : Type 0 where
  pub free : times n f ≡ 0
  pub local : (i : ℕ) → i ≢ n → (facts_at g i).local ≡ (facts_at f i).local
  pub kind : (i : ℕ) → i ≢ n → kind_at g i ≡ kind_at f i
  pub attributes : (i : ℕ) → (facts_at g i).attributes ≡ (facts_at f i).attributes
  pub parent : (i : ℕ) → parent_at g i ≡ parent_at f i
  pub children : (i : ℕ) → children_at g i ≡ children_at f i
  pub path_is : (i : ℕ) → i ≢ n → path i g ≡ path i f
  pub order : (i : ℕ) → i ≢ n → tree_order_of g i ≡ tree_order_of f i
