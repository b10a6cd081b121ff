-- A root that is put among the children of a node, and then taken out again, leaves the trees as they were.
use Rattle.std.proofs.Common.{◌≡◌, ◌≢◌, ℕ, zero, suc, ◌<◌, ◌≤◌, false, List, [], ◌∷◌, Option, Some, None, refl, ap, sym, ◌∙◌, subst, arith, inl, inr}
use Rattle.std.proofs.lemmas.Bool.{cases_eq, false_from_ne_true}
use Rattle.std.proofs.lemmas.Bool.Decides.{nat_tests}
use Rattle.node_trees.specs.Trees.{Trees, tree_of, cut, graft}
use Rattle.node_trees.specs.Insertion.{may_insert}
use Rattle.node_trees.specs.Nodes.{size, times, IsNode, IsTidy}
use Rattle.node_trees.specs.Paths.{is_among}
use Rattle.node_trees.specs.Spots.{Spot, spot_at, parent_at, children_at}
use Rattle.tree_laws.specs.Numbers.{insert_number, remove_number}
use Rattle.tree_laws.specs.OneForest.{IsForest-unique}
use Rattle.tree_laws.specs.Rows.{rows_to, rows_of, IsForest}
use Rattle.tree_laws.proofs.AllowedCut.{parent-outside}
use Rattle.tree_laws.proofs.Children.{child-parent}
use Rattle.tree_laws.proofs.CutReads.{in-tree}
use Rattle.tree_laws.proofs.ForestRows.{rows_of-forest}
use Rattle.tree_laws.proofs.MovedSpots.{Moved, grafted, removed}

-- trees with the same spots are the same

rows-same : (f g : Trees) (k : ℕ) → ((m : ℕ) → 0 < m → m ≤ k → spot_at g m ≡ spot_at f m) → rows_to g k ≡ rows_to f k
rows-same f g zero same = refl
rows-same f g (suc k) same =
    let before = rows-same f g k (λ m low high. same m low (omega (arith, high))) in
    let last = same (suc k) (omega arith) (omega arith) in
    rw (before, last) refl

pub one_forest : (f g : Trees) → IsTidy f → IsTidy g → size g ≡ size f → ((m : ℕ) → IsNode f m → spot_at g m ≡ spot_at f m) → g ≡ f
one_forest f g tidy_f tidy_g long same =
    let rows : rows_of g ≡ rows_of f = ap (rows_to g) long ∙ rows-same f g (size f) (λ m low high. same m (record { low = low; high = high })) in
    IsForest-unique (rows_of f) g f (subst (λ v. IsForest v g) rows (rows_of-forest g tidy_g)) (rows_of-forest f tidy_f)

-- a number that a list lacks, put into it and taken out

take_back : (b : Option ℕ) (n : ℕ) (ms : List ℕ) → is_among n ms ≡ false → remove_number n (insert_number b n ms) ≡ ms
take_back b n [] out = grind (arith, nat_tests)
take_back b n (m ∷ ms) out = grind (arith, nat_tests, take_back b n ms)

module _ (f : Trees) (p n : ℕ) (b : Option ℕ) (tidy : IsTidy f) (is_p : IsNode f p) (is_n : IsNode f n) (may : may_insert f p n b ≡ None)
    (free : parent_at f n ≡ None) where
  ne : p ≢ n
  ne e = absurd (omega (arith, in-tree f n tidy is_n, parent-outside f p n b tidy is_n may, ap (λ v. times v (tree_of n f)) e))

  put_in : Moved f (graft f p n b) p n (Some p) (insert_number b n (children_at f p))
  put_in = grafted f tidy p n is_p is_n ne b may free

  pub graft-node : (m : ℕ) → IsNode f m → IsNode (graft f p n b) m
  graft-node m at =
      let long = put_in.long in
      let low = at.low in
      let high = at.high in
      record { low = low; high = omega (arith, high, long) }

  pub graft-up : parent_at (graft f p n b) n ≡ Some p
  graft-up = ap (λ (s : Spot). s.parent) put_in.moved

  taken_out : Moved (graft f p n b) (cut (graft f p n b) n) p n None (remove_number n (children_at (graft f p n b) p))
  taken_out = removed (graft f p n b) put_in.tidy p n (graft-node p is_p) (graft-node n is_n) ne graft-up

  lacks : is_among n (children_at f p) ≡ false
  lacks = false_from_ne_true (is_among n (children_at f p)) (λ h. let claim = child-parent f p tidy is_p n h in cc)

  spots-back : (m : ℕ) → IsNode f m → spot_at (cut (graft f p n b) n) m ≡ spot_at f m
  spots-back m at = elim (cases_eq m n) [
    | inl e ↦ subst (λ v. spot_at (cut (graft f p n b) n) v ≡ spot_at f v) (sym e)
        (taken_out.moved ∙ ap (λ (s : Spot). record s { parent = None }) put_in.moved ∙ ap (λ o. record (spot_at f n) { parent = o }) (sym free))
    | inr ne_n ↦ elim (cases_eq m p) [
      | inl e ↦ subst (λ v. spot_at (cut (graft f p n b) n) v ≡ spot_at f v) (sym e)
          (taken_out.there
          ∙ ap (λ (s : Spot). record s { children = remove_number n s.children }) put_in.there
          ∙ ap (λ ms. record (spot_at f p) { children = ms }) (take_back b n (children_at f p) lacks))
      | inr ne_p ↦ taken_out.others m (graft-node m at) ne_n ne_p ∙ put_in.others m at ne_n ne_p
    ]
  ]

  pub cut-graft : cut (graft f p n b) n ≡ f
  cut-graft = one_forest f (cut (graft f p n b) n) tidy taken_out.tidy (taken_out.long ∙ put_in.long) spots-back
