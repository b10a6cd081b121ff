-- What is not connected stays so.
use Rattle.std.proofs.Common.{◌≡◌, ℕ, zero, suc, ◌≤◌, true, false, List, [], ◌∷◌, Option, Some, None, ap, sym, ◌∙◌, subst, arith, inl, inr, length}
use Rattle.std.proofs.lemmas.Bool.{cases_lt, cases_eq}
use Rattle.std.specs.Prelude.{unwrap_or}
use Rattle.node_trees.specs.Facts.{Facts, is_document}
use Rattle.node_trees.specs.Trees.{Trees, with_node, with_facts}
use Rattle.node_trees.specs.Spots.{Spot, spot_of, spot_at, or_no_spot, kind_at, parent_at, host_at, first_of}
use Rattle.node_trees.specs.Paths.{path, connected}
use Rattle.node_trees.specs.Nodes.{size, times, IsNode, IsTidy}
use Rattle.node_trees.specs.Links.{KeepsApart}
use Rattle.tree_laws.specs.Numbers.{insert_number}
use Rattle.tree_laws.specs.Rows.{row_of_node, IsForest, Grafted}
use Rattle.tree_laws.proofs.Above.{IsAbove, nothing, a_parent, a_host, row_above, parent-above}
use Rattle.tree_laws.proofs.AtNode.{node_stands, node_spot, parent_at-is, host_at-is, spot_at-is}
use Rattle.tree_laws.proofs.Changed.{path-with}
use Rattle.tree_laws.proofs.ChangedReads.{kind_at-with}
use Rattle.tree_laws.proofs.ConnectedBelow.{same_first}
use Rattle.tree_laws.proofs.RowForests.{stands_at, row_is}
use Rattle.tree_laws.proofs.Pieces.{path-absent, path-long}
use Rattle.tree_laws.proofs.Sizes.{size-with_node}
use Rattle.tree_laws.proofs.OtherSpots.{spot_at-new}
use Rattle.tree_laws.proofs.WayUp.{first_of-long}
use Rattle.node_trees.proofs.Absent.{spot-absent}

-- a root is connected where it is a document, and another node where what is above it is

pub connected-root : (f : Trees) (m : ℕ) → path m f ≡ m ∷ [] → connected f m ≡ is_document (kind_at f m)
connected-root f m is = ap (λ xs. is_document (kind_at f (unwrap_or (first_of xs) m))) is

pub connected-above : (f : Trees) (m q : ℕ) → IsTidy f → IsAbove f q m → connected f m ≡ connected f q
connected-above f m q tidy a =
    let long = path-long q f (node_stands f q tidy a.is_node) in
    ap (λ v. is_document (kind_at f v))
    (sym (same_first (path q f) (path m f) q m long (sym (ap first_of a.path_is ∙ first_of-long (path q f) (m ∷ []) long))))

-- what is not connected is a node
apart-node : (f : Trees) (m : ℕ) → IsTidy f → connected f m ≡ false → IsNode f m
apart-node f m tidy apart = elim (cases_lt 0 (times m f)) [
  | inl low ↦ tidy.only m low
  | inr out ↦
      let gone : times m f ≡ 0 = omega arith in
      let root : connected f m ≡ is_document (kind_at f m) = ap (λ xs. is_document (kind_at f (unwrap_or (first_of xs) m))) (path-absent m f gone) in
      let kind : is_document (kind_at f m) ≡ true = ap (λ o. is_document (or_no_spot o).facts.kind) (spot-absent None None m f gone) in
      let both : true ≡ false = sym kind ∙ sym root ∙ apart in
      absurd cc
]

-- what is above a node in new trees: what was above it, or a node that was not connected
data UpIn (f g : Trees) (m : ℕ) : Type 0 where
  alike : parent_at g m ≡ parent_at f m → host_at g m ≡ host_at f m → kind_at g m ≡ kind_at f m → UpIn f g m
  moved : (p : ℕ) → parent_at g m ≡ Some p → IsNode f p → connected f p ≡ false → UpIn f g m

module _ (f g : Trees) (tidy_f : IsTidy f) (tidy_g : IsTidy g) (more : size f ≤ size g) (up : (m : ℕ) → IsNode f m → connected f m ≡ false → UpIn f g m) where
  node_in : (m : ℕ) → IsNode f m → IsNode g m
  node_in m at = let low = at.low in let high = at.high in record { low = low; high = omega (arith, high, more) }

  root-apart : (m : ℕ) → IsNode f m → connected f m ≡ false → parent_at g m ≡ None → host_at g m ≡ None → UpIn f g m → is_document (kind_at g m) ≡ false
  root-apart m at apart e o (moved p is node_p apart_p) = absurd cc
  root-apart m at apart e o (alike parent host kind) =
      let st = node_spot f m tidy_f at in
      let no_parent : st.row.parent ≡ None = sym (parent_at-is f m st.row st.is) ∙ sym parent ∙ e in
      let no_host : st.row.host ≡ None = sym (host_at-is f m st.row st.is) ∙ sym host ∙ o in
      elim (row_above f m st.row tidy_f at st.is) [
        | nothing e o z ↦ ap is_document kind ∙ sym (connected-root f m z) ∙ apart
        | a_parent q e o a ↦ absurd cc
        | a_host q e o a ↦ absurd cc
      ]

  -- of the nodes so far down
  abbrev Down : ℕ → Type 0
  Down k = (q : ℕ) → length (path q g) ≤ k → IsNode f q → connected f q ≡ false → connected g q ≡ false

  above_parent : (k m q : ℕ) → Down k → length (path q g) ≤ k → IsNode f m → connected f m ≡ false → parent_at g m ≡ Some q → UpIn f g m
      → connected g q ≡ false
  above_parent k m q below short at apart e (moved p is node_p apart_p) = let same : p ≡ q =
      cc in subst (λ v. length (path v g) ≤ k → connected g v ≡ false) same (λ short. below p short node_p apart_p) short
  above_parent k m q below short at apart e (alike parent host kind) =
      let a = parent-above f m q tidy_f at (sym parent ∙ e) in
      below q short a.is_node (sym (connected-above f m q tidy_f a) ∙ apart)

  above_host : (k m q : ℕ) → Down k → length (path q g) ≤ k → IsNode f m → connected f m ≡ false → parent_at g m ≡ None → host_at g m ≡ Some q → UpIn f g m
      → connected g q ≡ false
  above_host k m q below short at apart e o (moved p is node_p apart_p) = absurd cc
  above_host k m q below short at apart e o (alike parent host kind) =
      let st = node_spot f m tidy_f at in
      let parent_is = parent_at-is f m st.row st.is in
      let host_is = host_at-is f m st.row st.is in
      elim (row_above f m st.row tidy_f at st.is) [
        | nothing no_parent no_host z ↦ absurd cc
        | a_parent p is no_host a ↦ absurd cc
        | a_host p no_parent is a ↦
            let same : p ≡ q = cc in
            let b = subst (λ v. IsAbove f v m) same a in
            below q short b.is_node (sym (connected-above f m q tidy_f b) ∙ apart)
      ]

  climb : (k m : ℕ) → length (path m g) ≤ k → IsNode f m → connected f m ≡ false → connected g m ≡ false
  climb zero m short at apart = absurd (omega (arith, short, path-long m g (node_stands g m tidy_g (node_in m at))))
  climb (suc k) m short at apart =
      let st = node_spot g m tidy_g (node_in m at) in
      let parent_is = parent_at-is g m st.row st.is in
      let host_is = host_at-is g m st.row st.is in
      elim (row_above g m st.row tidy_g (node_in m at) st.is) [
        | nothing e o z ↦ connected-root g m z ∙ root-apart m at apart (parent_is ∙ e) (host_is ∙ o) (up m at apart)
        | a_parent q e o a ↦ connected-above g m q tidy_g a
            ∙ above_parent k m q (climb k) (let near = a.nearer in omega (arith, near, short)) at apart (parent_is ∙ e) (up m at apart)
        | a_host q e o a ↦ connected-above g m q tidy_g a
            ∙ above_host k m q (climb k) (let near = a.nearer in omega (arith, near, short)) at apart (parent_is ∙ e) (host_is ∙ o) (up m at apart)
      ]

  stays-apart : KeepsApart f g
  stays-apart m apart = climb (length (path m g)) m (omega arith) (apart-node f m tidy_f apart) apart

-- a node that was made
pub apart-new : (n : ℕ) (x : Facts) (f g : Trees) → IsTidy f → IsTidy g → g ≡ with_node n x f → KeepsApart f g
apart-new n x f g tidy_f tidy_g is =
    let more = size-with_node n x f in
    let still = λ (m : ℕ) (at : IsNode f m). ap (λ v. spot_at v m) is ∙ spot_at-new n x f m tidy_f at in
    stays-apart f g tidy_f tidy_g (omega (arith, more, ap size is))
    (λ m at apart. alike (ap (λ (s : Spot). s.parent) (still m at)) (ap (λ (s : Spot). s.host) (still m at)) (ap (λ (s : Spot). s.facts.kind) (still m at)))

pub row_written : (rows rows' : List Spot) (m n : ℕ) (it new : Spot) → m ≡ n → row_of_node rows m ≡ Some it
    → (row_of_node rows n ≡ Some it → row_of_node rows' n ≡ Some new) → row_of_node rows' m ≡ Some new
row_written rows rows' m n it new e at f = subst (λ v. row_of_node rows' v ≡ Some new) (sym e) (f (subst (λ v. row_of_node rows v ≡ Some it) e at))

-- a node put below one that is not connected
pub apart-grafted : (rows rows' : List Spot) (f g : Trees) (p n : ℕ) (b : Option ℕ) → IsForest rows f → IsForest rows' g → Grafted rows rows' p n b
    → IsNode f p → connected f p ≡ false → KeepsApart f g
apart-grafted rows rows' f g p n b a a' w node_p apart_p =
    let more : size f ≤ size g = omega (arith, a.counted, a'.counted, w.length_is) in
    stays-apart f g a.tidy a'.tidy more (λ m at apart.
    let low = at.low in
    let high = at.high in
    let st = stands_at rows f m a at in
    let still : IsNode g m = record { low = low; high = omega (arith, high, more) } in
    let old = spot_at-is f m _ st.it.spot_is in
    let it = spot_of st.it.facts st.it.parent st.it.host st.it.shadow st.it.children in
    elim (cases_eq m n) [
      | inl e ↦
          let there : row_of_node rows' m ≡ Some (record it { parent = Some p }) = row_written rows rows' m n it _ e st.row (w.moved it) in
          moved p (parent_at-is g m _ (row_is rows' g m _ a' still there)) node_p apart_p
      | inr ne ↦ elim (cases_eq m p) [
        | inl e ↦
            let there : row_of_node rows' m ≡ Some (record it { children = insert_number b n it.children }) =
            row_written rows rows' m p it _ e st.row (w.there it) in
            let new = spot_at-is g m _ (row_is rows' g m _ a' still there) in
            alike (ap (λ (s : Spot). s.parent) new ∙ sym (ap (λ (s : Spot). s.parent) old))
            (ap (λ (s : Spot). s.host) new ∙ sym (ap (λ (s : Spot). s.host) old))
            (ap (λ (s : Spot). s.facts.kind) new ∙ sym (ap (λ (s : Spot). s.facts.kind) old))
        | inr ne_p ↦
            let same = spot_at-is g m _ (row_is rows' g m _ a' still (w.others m low ne ne_p ∙ st.row)) ∙ sym old in
            alike (ap (λ (s : Spot). s.parent) same) (ap (λ (s : Spot). s.host) same) (ap (λ (s : Spot). s.facts.kind) same)
      ]
    ])

-- a change of a node's facts
pub apart-with : (n : ℕ) (c : Facts → Facts) (f g : Trees) → ((x : Facts) → (c x).kind ≡ x.kind) → g ≡ with_facts n c f → KeepsApart f g
apart-with n c f g keeps is m apart =
    rw (is, path-with n c m f) (ap is_document (kind_at-with n c f keeps (unwrap_or (first_of (path m f)) m)) ∙ apart)

pub apart-same : (f g : Trees) → g ≡ f → KeepsApart f g
apart-same f g is m apart = rw is apart
