-- What stands at each node after a shadow root was attached.
use Rattle.std.proofs.Common.{◌≡◌, ◌≢◌, ℕ, true, ◌+◌, ◌-◌, ◌<◌, ◌≤◌, List, [], ◌∷◌, ◌++◌, Some, None, ap, sym, ◌∙◌, arith, length, length-append}
use Rattle.std.proofs.Math.ListN.{set, length-set}
use Rattle.ce_base.proofs.Places.{set_other, set_within}
use Rattle.node_trees.specs.Facts.{Facts, is_element, is_shadow_root}
use Rattle.node_trees.specs.Trees.{Trees, none, single, with_shadow}
use Rattle.node_trees.specs.Spots.{Spot, spot_of, spot_at, kind_at}
use Rattle.node_trees.specs.Nodes.{size, surplus_at, IsNode, IsTidy}
use Rattle.tree_laws.specs.Rows.{row_of_node, rows_of, IsForest, Attached}
use Rattle.tree_laws.proofs.AtNode.{node_spot, spot_at-is}
use Rattle.tree_laws.proofs.ByIndex.{slice_get-append_end, slice_get-append_other}
use Rattle.tree_laws.proofs.ForestRows.{rows_of-forest, rows_of-at, rows_of-length}
use Rattle.tree_laws.proofs.RowForests.{attach_forest, row_is}

module _ (f : Trees) (tidy : IsTidy f) (h : ℕ) (at : IsNode f h) (x : Facts) (element : is_element (kind_at f h) ≡ true) (bare : (spot_at f h).shadow ≡ [])
    (fit : is_shadow_root x.kind ≡ true) (own : surplus_at x ≡ 0) where
  abbrev pub new_root : ℕ
  new_root = size f + 1

  abbrev pub with_root : Trees
  with_root = with_shadow h (single new_root x) f

  abbrev pub host_spot : Spot
  host_spot = record (spot_at f h) { shadow = new_root ∷ [] }

  abbrev pub root_spot : Spot
  root_spot = spot_of x None (Some h) none none

  abbrev pub attached_rows : List Spot
  attached_rows = set (rows_of f ++ root_spot ∷ []) (h - 1) host_spot

  long : length (rows_of f ++ root_spot ∷ []) ≡ size f + 1
  long = omega (arith, rows_of-length f, length-append (rows_of f) (root_spot ∷ []))

  row-root : row_of_node attached_rows new_root ≡ Some root_spot
  row-root = set_other (rows_of f ++ root_spot ∷ []) (h - 1) (new_root - 1) host_spot (λ e. omega (arith, e, at.low, at.high))
      ∙ slice_get-append_end (rows_of f) root_spot (new_root - 1) (omega (arith, rows_of-length f))

  row-host : row_of_node attached_rows h ≡ Some host_spot
  row-host = set_within (rows_of f ++ root_spot ∷ []) (h - 1) host_spot (omega (arith, long, at.low, at.high))

  row-other : (m : ℕ) → 0 < m → m ≢ new_root → m ≢ h → row_of_node attached_rows m ≡ row_of_node (rows_of f) m
  row-other m low m_n m_h =
      set_other (rows_of f ++ root_spot ∷ []) (h - 1) (m - 1) host_spot (λ e. m_h (omega (arith, e, low, at.low)))
      ∙ slice_get-append_other (rows_of f) root_spot (m - 1) (λ e. m_n (omega (arith, e, low, rows_of-length f)))

  pub attach_writes : Attached (rows_of f) attached_rows h new_root x
  attach_writes = record {
    length_is = length-set (rows_of f ++ root_spot ∷ []) (h - 1) host_spot ∙ length-append (rows_of f) (root_spot ∷ []);
    made = row-root;
    there = λ row here. let same = rows_of-at f h at in let e : spot_at f h ≡ row =
        cc in row-host ∙ ap (λ (s : Spot). Some (record s { shadow = new_root ∷ [] })) e;
    others = row-other;
  }

  pub attach_is : IsForest attached_rows with_root
  attach_is =
      let st = node_spot f h tidy at in
      let none_there : st.row.shadow ≡ [] = ap (λ (s : Spot). s.shadow) (sym (spot_at-is f h st.row st.is)) ∙ bare in
      attach_forest (rows_of f) attached_rows f h x st.row (rows_of-forest f tidy) at st.is element none_there fit own attach_writes

  pub attached-size : size with_root ≡ size f + 1
  attached-size = omega (arith, attach_is.counted, attach_writes.length_is, rows_of-length f)

  spot-of_row : (m : ℕ) (row : Spot) → 0 < m → m ≤ size f + 1 → row_of_node attached_rows m ≡ Some row → spot_at with_root m ≡ row
  spot-of_row m row low high e =
      spot_at-is with_root m row (row_is attached_rows with_root m row attach_is (record { low = low; high = omega (arith, high, attached-size) }) e)

  pub spot-root : spot_at with_root new_root ≡ root_spot
  spot-root = spot-of_row new_root root_spot (omega arith) (omega arith) row-root

  pub spot-host : spot_at with_root h ≡ host_spot
  spot-host = spot-of_row h host_spot at.low (omega (arith, at.high)) row-host

  pub spot-others : (m : ℕ) → IsNode f m → m ≢ h → spot_at with_root m ≡ spot_at f m
  spot-others m node m_h = spot-of_row m (spot_at f m) node.low (omega (arith, node.high))
      (row-other m node.low (λ e. omega (arith, e, node.high)) m_h ∙ rows_of-at f m node)
