-- The orders of a node and all below it.
use Rattle.std.specs.Prelude.{ℕ, List, [], ◌∷◌, ◌++◌}
use Rattle.node_trees.specs.Trees.{Trees, none, tree, tree_of}

-- shadow-including tree order: a node, then its shadow tree, then its children, each in this order (DOM Standard,
-- section "Interface ShadowRoot", "shadow-including tree order")
abbrev pub order : Trees → List ℕ
order none = []
order (tree m x shadow children rest) = m ∷ (order shadow ++ (order children ++ order rest))

-- tree order: the same without shadow trees (DOM Standard, section "Trees", "tree order")
abbrev pub tree_order : Trees → List ℕ
tree_order none = []
tree_order (tree m x shadow children rest) = m ∷ (tree_order children ++ tree_order rest)

-- the shadow-including inclusive descendants of n, in their order
abbrev pub order_of : Trees → ℕ → List ℕ
order_of forest n = order (tree_of n forest)

-- the inclusive descendants of n, in tree order
abbrev pub tree_order_of : Trees → ℕ → List ℕ
tree_order_of forest n = tree_order (tree_of n forest)
