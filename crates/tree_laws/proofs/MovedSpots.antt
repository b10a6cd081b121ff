-- What stands at each node after an insertion, and after a removal.
use Rattle.std.proofs.Common.{◌≡◌, ◌≢◌, ℕ, ◌-◌, ◌<◌, ◌≤◌, List, Option, Some, None, ap, ◌∙◌, arith, length}
use Rattle.std.proofs.Math.ListN.{set, length-set}
use Rattle.ce_base.proofs.Places.{set_other, set_within}
use Rattle.node_trees.specs.Trees.{Trees, graft, cut}
use Rattle.node_trees.specs.Spots.{Spot, spot_at, parent_at, children_at, or_no_spot}
use Rattle.node_trees.specs.Insertion.{may_insert}
use Rattle.node_trees.specs.Nodes.{size, IsNode, IsTidy}
use Rattle.tree_laws.specs.Numbers.{insert_number, remove_number}
use Rattle.tree_laws.specs.Rows.{row_of_node, rows_of, IsForest, Grafted, Severed}
use Rattle.tree_laws.proofs.ForestRows.{rows_of-forest, rows_of-at, rows_of-length}
use Rattle.tree_laws.proofs.RowForests.{graft_forest, cut_forest, row_is}

-- rows of which that of p, and then that of n, is replaced
module _ (rows : List Spot) (p n : ℕ) (u v : Spot) (low_p : 0 < p) (high_p : p ≤ length rows) (low_n : 0 < n) (high_n : n ≤ length rows) (ne : p ≢ n) where
  abbrev both : List Spot
  both = set (set rows (p - 1) u) (n - 1) v

  both-length : length both ≡ length rows
  both-length = length-set (set rows (p - 1) u) (n - 1) v ∙ length-set rows (p - 1) u

  both-n : row_of_node both n ≡ Some v
  both-n = set_within (set rows (p - 1) u) (n - 1) v (omega (arith, length-set rows (p - 1) u))

  both-p : row_of_node both p ≡ Some u
  both-p = set_other (set rows (p - 1) u) (n - 1) (p - 1) v (λ e. ne (omega (arith, e, low_p, low_n)))
      ∙ set_within rows (p - 1) u (omega arith)

  both-other : (m : ℕ) → 0 < m → m ≢ n → m ≢ p → row_of_node both m ≡ row_of_node rows m
  both-other m low m_n m_p = set_other (set rows (p - 1) u) (n - 1) (m - 1) v (λ e. m_n (omega (arith, e, low, low_n)))
      ∙ set_other rows (p - 1) (m - 1) u (λ e. m_p (omega (arith, e, low, low_p)))

-- g is f but for the parent of n and the children of p
pub record Moved (f g : Trees) (p n : ℕ) (parent : Option ℕ) (children : List ℕ) : Type 0 where
  pub tidy : IsTidy g
  pub long : size g ≡ size f
  pub moved : spot_at g n ≡ record (spot_at f n) { parent = parent }
  pub there : spot_at g p ≡ record (spot_at f p) { children = children }
  pub others : (m : ℕ) → IsNode f m → m ≢ n → m ≢ p → spot_at g m ≡ spot_at f m

module _ (f : Trees) (tidy : IsTidy f) (p n : ℕ) (is_p : IsNode f p) (is_n : IsNode f n) (ne : p ≢ n) where
  pub within : (m : ℕ) → IsNode f m → m ≤ length (rows_of f)
  within m at = omega (arith, at.high, rows_of-length f)

  own_row : (m : ℕ) (row : Spot) → IsNode f m → row_of_node (rows_of f) m ≡ Some row → spot_at f m ≡ row
  own_row m row at is = let e = rows_of-at f m at in cc

  module _ (parent : Option ℕ) (children : List ℕ) where
    abbrev pub written : List Spot
    written = both (rows_of f) p n (record (spot_at f p) { children = children }) (record (spot_at f n) { parent = parent }) is_p.low (within p is_p) is_n.low
        (within n is_n) ne

    written-length : length written ≡ length (rows_of f)
    written-length = both-length (rows_of f) p n _ _ is_p.low (within p is_p) is_n.low (within n is_n) ne

    written-n : row_of_node written n ≡ Some (record (spot_at f n) { parent = parent })
    written-n = both-n (rows_of f) p n _ _ is_p.low (within p is_p) is_n.low (within n is_n) ne

    written-p : row_of_node written p ≡ Some (record (spot_at f p) { children = children })
    written-p = both-p (rows_of f) p n _ _ is_p.low (within p is_p) is_n.low (within n is_n) ne

    written-other : (m : ℕ) → 0 < m → m ≢ n → m ≢ p → row_of_node written m ≡ row_of_node (rows_of f) m
    written-other = both-other (rows_of f) p n _ _ is_p.low (within p is_p) is_n.low (within n is_n) ne

    moved_in : (g : Trees) → IsForest written g → Moved f g p n parent children
    moved_in g is =
        let long : size g ≡ size f = omega (arith, is.counted, written-length, rows_of-length f) in
        let over = λ (m : ℕ) (at : IsNode f m). let r : IsNode g m = record { low = at.low; high = omega (arith, at.high, long) } in r in
        record {
          tidy = is.tidy;
          long = long;
          moved = ap or_no_spot (row_is written g n _ is (over n is_n) written-n);
          there = ap or_no_spot (row_is written g p _ is (over p is_p) written-p);
          others = λ m at m_n m_p. ap or_no_spot (row_is written g m (spot_at f m) is (over m at) (written-other m at.low m_n m_p ∙ rows_of-at f m at));
        }

  -- an insertion
  module _ (b : Option ℕ) (may : may_insert f p n b ≡ None) (free : parent_at f n ≡ None) where
    abbrev pub graft_rows : List Spot
    graft_rows = written (Some p) (insert_number b n (children_at f p))

    pub graft_writes : Grafted (rows_of f) graft_rows p n b
    graft_writes = record {
      length_is = written-length (Some p) (insert_number b n (children_at f p));
      moved = λ row is. written-n (Some p) (insert_number b n (children_at f p))
          ∙ ap (λ (r : Spot). Some (record r { parent = Some p })) (own_row n row is_n is);
      there = λ row is. written-p (Some p) (insert_number b n (children_at f p))
          ∙ ap (λ (r : Spot). Some (record r { children = insert_number b n r.children })) (own_row p row is_p is);
      others = written-other (Some p) (insert_number b n (children_at f p));
    }

    pub graft_is : IsForest graft_rows (graft f p n b)
    graft_is = graft_forest (rows_of f) graft_rows f p n b (rows_of-forest f tidy) is_p is_n may free graft_writes

    pub grafted : Moved f (graft f p n b) p n (Some p) (insert_number b n (children_at f p))
    grafted = moved_in (Some p) (insert_number b n (children_at f p)) (graft f p n b) graft_is

  -- a removal
  module _ (up : parent_at f n ≡ Some p) where
    abbrev pub cut_rows : List Spot
    cut_rows = written None (remove_number n (children_at f p))

    cut_writes : Severed (rows_of f) cut_rows p n
    cut_writes = record {
      length_is = written-length None (remove_number n (children_at f p));
      moved = λ row is. written-n None (remove_number n (children_at f p)) ∙ ap (λ (r : Spot). Some (record r { parent = None })) (own_row n row is_n is);
      there = λ row is. written-p None (remove_number n (children_at f p))
          ∙ ap (λ (r : Spot). Some (record r { children = remove_number n r.children })) (own_row p row is_p is);
      others = written-other None (remove_number n (children_at f p));
    }

    pub removed : Moved f (cut f n) p n None (remove_number n (children_at f p))
    removed = moved_in None (remove_number n (children_at f p)) (cut f n) (cut_forest (rows_of f) cut_rows f p n (rows_of-forest f tidy) is_n up cut_writes)
