-- What is above a node of a forest.
use Rattle.std.proofs.Common.{◌≡◌, ℕ, ◌<◌, [], ◌∷◌, ◌++◌, Some, None, ap, subst, arith, inl, inr, length, length-append}
use Rattle.node_trees.specs.Trees.{Trees, tree_of}
use Rattle.node_trees.specs.Nodes.{times, IsNode, IsTidy}
use Rattle.node_trees.specs.Paths.{path}
use Rattle.node_trees.specs.Spots.{Spot, spot, parent_at, host_at}
use Rattle.tree_laws.proofs.Sums.{tidy-apart}
use Rattle.tree_laws.proofs.Up.{Under, at_root, above, step_up}
use Rattle.tree_laws.proofs.AtNode.{node_stands, parent_at-is, host_at-is, node_spot}

-- the node above n: its parent, or its host
pub record IsAbove (f : Trees) (q n : ℕ) : Type 0 where
  pub is_node : IsNode f q
  pub outside : times q (tree_of n f) ≡ 0
  pub path_is : path n f ≡ path q f ++ (n ∷ [])
  pub nearer : length (path q f) < length (path n f)

-- what is above a node in its row: nothing, its parent or its host
pub data RowAbove (f : Trees) (n : ℕ) (row : Spot) : Type 0 where
  nothing : row.parent ≡ None → row.host ≡ None → path n f ≡ n ∷ [] → RowAbove f n row
  a_parent : (q : ℕ) → row.parent ≡ Some q → row.host ≡ None → IsAbove f q n → RowAbove f n row
  a_host : (q : ℕ) → row.parent ≡ None → row.host ≡ Some q → IsAbove f q n → RowAbove f n row

under_is : (f : Trees) (q n : ℕ) (row : Spot) → IsTidy f → Under q n f row → IsAbove f q n
under_is f q n row tidy u = record {
  is_node = tidy.only q u.inside;
  outside = u.outside;
  path_is = u.path_is;
  nearer = omega (arith, ap length u.path_is, length-append (path q f) (n ∷ []));
}

pub row_above : (f : Trees) (n : ℕ) (row : Spot) → IsTidy f → IsNode f n → spot f n ≡ Some row → RowAbove f n row
row_above f n row tidy node is = elim (step_up None None n f row (tidy-apart f tidy) (node_stands f n tidy node) is) [
  | at_root e o z ↦ nothing e o z
  | above q u ↦ elim u.link [
    | inl l ↦ a_parent q l.0 l.1 (under_is f q n row tidy u)
    | inr l ↦ a_host q l.0 l.1 (under_is f q n row tidy u)
  ]
]

module _ (f : Trees) (n q : ℕ) (tidy : IsTidy f) (node : IsNode f n) where
  pub parent-above : parent_at f n ≡ Some q → IsAbove f q n
  parent-above up =
      let st = node_spot f n tidy node in
      let at = parent_at-is f n st.row st.is in
      elim (row_above f n st.row tidy node st.is) [
        | nothing e o z ↦ absurd cc
        | a_parent p e o a ↦ let same : p ≡ q = cc in subst (λ v. IsAbove f v n) same a
        | a_host p e o a ↦ absurd cc
      ]

module _ (f : Trees) (n : ℕ) (tidy : IsTidy f) (node : IsNode f n) where
  -- a node with a parent has no host
  pub parent-no_host : (p : ℕ) → parent_at f n ≡ Some p → host_at f n ≡ None
  parent-no_host p up =
      let st = node_spot f n tidy node in
      let at = parent_at-is f n st.row st.is in
      let at_host = host_at-is f n st.row st.is in
      elim (row_above f n st.row tidy node st.is) [
        | nothing e o z ↦ absurd cc
        | a_parent q e o a ↦ cc
        | a_host q e o a ↦ absurd cc
      ]
