-- Whether nodes are connected, after each change of the trees.
use Rattle.std.proofs.Common.{◌≡◌, ◌≢◌, ℕ, zero, suc, ◌≤◌, ◌+◌, Bool, true, false, List, [], ◌∷◌, ◌++◌, Option, Some, None, ap, sym, ◌∙◌, arith, inl, inr}
use Rattle.std.proofs.Common.{length, refl}
use Rattle.std.specs.Prelude.{⊤}
use Rattle.std.proofs.lemmas.Bool.{cases_eq}
use Rattle.std.proofs.lemmas.Bool.Decides.{nat_tests}
use Rattle.std.specs.Option.{option_or}
use Rattle.std.specs.Prelude.{unwrap_or}
use Rattle.node_trees.specs.Facts.{Facts, is_document}
use Rattle.node_trees.specs.Trees.{Trees, tree_of, cut, with_node, with_facts}
use Rattle.node_trees.specs.Spots.{Spot, spot_of, spot_at, kind_at, parent_at, host_at, first_of}
use Rattle.node_trees.specs.Paths.{path, connected, is_among}
use Rattle.node_trees.specs.Orders.{order_of}
use Rattle.node_trees.specs.Nodes.{size, times, IsNode, IsTidy}
use Rattle.node_trees.proofs.Absent.{is_among-append}
use Rattle.tree_laws.specs.Numbers.{insert_number}
use Rattle.tree_laws.specs.Rows.{row_of_node, IsForest, Grafted, Attached}
use Rattle.tree_laws.proofs.Above.{IsAbove, nothing, a_parent, a_host, row_above, parent-above}
use Rattle.tree_laws.proofs.Apart.{connected-root, connected-above, row_written}
use Rattle.tree_laws.proofs.AtNode.{node_stands, node_spot, parent_at-is, host_at-is, spot_at-is}
use Rattle.tree_laws.proofs.Changed.{path-with}
use Rattle.tree_laws.proofs.ChangedReads.{kind_at-with}
use Rattle.tree_laws.proofs.Counts.{count-among}
use Rattle.tree_laws.proofs.CutReads.{parent_at-cut, host_at-cut, kind_at-cut}
use Rattle.tree_laws.proofs.RowForests.{stands_at, row_is}
use Rattle.tree_laws.proofs.OtherSpots.{spot_at-new}
use Rattle.tree_laws.proofs.Pieces.{path-long}
use Rattle.tree_laws.proofs.Sizes.{size-with_node}
use Rattle.tree_laws.proofs.Walked.{walked, count-order}

-- what is above a node, and its kind, are the same
pub record SameAbove (f g : Trees) (m : ℕ) : Type 0 where
  pub parent : parent_at g m ≡ parent_at f m
  pub host : host_at g m ≡ host_at f m
  pub kind : kind_at g m ≡ kind_at f m

abbrev above_at : Trees → ℕ → Option ℕ
above_at f m = option_or (parent_at f m) (host_at f m)

-- nothing is above a node, or one node is
data TopOrBelow (f : Trees) (m : ℕ) : Type 0 where
  top : above_at f m ≡ None → path m f ≡ m ∷ [] → TopOrBelow f m
  below : (q : ℕ) → above_at f m ≡ Some q → IsAbove f q m → TopOrBelow f m

up_of : (f : Trees) (m : ℕ) → IsTidy f → IsNode f m → TopOrBelow f m
up_of f m tidy at =
    let st = node_spot f m tidy at in
    let is : above_at f m ≡ option_or st.row.parent st.row.host = rw (parent_at-is f m st.row st.is, host_at-is f m st.row st.is) refl in
    elim (row_above f m st.row tidy at st.is) [
      | nothing e o z ↦ top (is ∙ rw (e, o) refl) z
      | a_parent q e o a ↦ below q (is ∙ rw e refl) a
      | a_host q e o a ↦ below q (is ∙ rw (e, o) refl) a
    ]

same_above : (f g : Trees) (m : ℕ) → SameAbove f g m → above_at g m ≡ above_at f m
same_above f g m same = ap (λ o. option_or o (host_at g m)) same.parent ∙ ap (λ o. option_or (parent_at f m) o) same.host

-- nodes with the same above them, all the way up, are as connected as they were
module _ (f g : Trees) (tidy_f : IsTidy f) (tidy_g : IsTidy g) (Here : ℕ → Type 0) (up : (q m : ℕ) → IsAbove f q m → Here m → Here q) (over : (m : ℕ)
    → IsNode f m → IsNode g m) (alike : (m : ℕ) → IsNode f m → Here m → SameAbove f g m) where
  climb : (k m : ℕ) → length (path m f) ≤ k → IsNode f m → Here m → connected g m ≡ connected f m
  climb zero m short at here = absurd (omega (arith, short, path-long m f (node_stands f m tidy_f at)))
  climb (suc k) m short at here =
      let same = alike m at here in
      let link = same_above f g m same in
      elim (up_of f m tidy_f at) [
        | top e z ↦ elim (up_of g m tidy_g (over m at)) [
          | top e' z' ↦ connected-root g m z' ∙ ap is_document same.kind ∙ sym (connected-root f m z)
          | below q' e' a' ↦ absurd cc
        ]
        | below q e a ↦ elim (up_of g m tidy_g (over m at)) [
          | top e' z' ↦ absurd cc
          | below q' e' a' ↦
              let one : q' ≡ q = cc in
              let near = a.nearer in
              connected-above g m q' tidy_g a' ∙ ap (connected g) one ∙ climb k q (omega (arith, near, short)) a.is_node (up q m a here)
              ∙ sym (connected-above f m q tidy_f a)
        ]
      ]

  pub connected-same : (m : ℕ) → IsNode f m → Here m → connected g m ≡ connected f m
  connected-same m at here = climb (length (path m f)) m (omega arith) at here

-- the trees have as many nodes, and for each node but n what is above it, and its kind, are the same
pub record IsMoved (f g : Trees) (n : ℕ) : Type 0 where
  pub tidy_before : IsTidy f
  pub tidy_now : IsTidy g
  pub long : size g ≡ size f
  pub alike : (m : ℕ) → IsNode g m → m ≢ n → SameAbove g f m

-- what is on a path is on the path of what is above, or is the last
on_path : (n m : ℕ) (xs : List ℕ) → is_among n (xs ++ m ∷ []) ≡ true → m ≢ n → is_among n xs ≡ true
on_path n m xs on ne = let parts = is_among-append n xs (m ∷ []) in grind (arith, nat_tests)

off_path : (n m : ℕ) (xs : List ℕ) → is_among n (xs ++ m ∷ []) ≡ false → is_among n xs ≡ false
off_path n m xs off = let parts = is_among-append n xs (m ∷ []) in grind (arith, nat_tests)

not_last : (n m : ℕ) (xs : List ℕ) → is_among n (xs ++ m ∷ []) ≡ false → m ≢ n
not_last n m xs off = let parts = is_among-append n xs (m ∷ []) in grind (arith, nat_tests)

outside-path : (f : Trees) (n i : ℕ) → IsTidy f → times i (tree_of n f) ≡ 0 → is_among n (path i f) ≡ false
outside-path f n i tidy z = by_test (is_among n (path i f)) refl
  where
    by_test : (b : Bool) → is_among n (path i f) ≡ b → b ≡ false
    by_test false e = refl
    by_test true e = let low = count-among i (order_of f n) (walked f n i tidy ∙ e) in let count =
        count-order i (tree_of n f) in absurd (omega (arith, low, count, z))

module _ (f g : Trees) (n : ℕ) (moved : IsMoved f g n) where
  pub was_node : (m : ℕ) → IsNode g m → IsNode f m
  was_node m at = let high = at.high in let long = moved.long in record { low = at.low; high = omega (arith, high, long) }

  differs : (m : ℕ) → IsNode g m → is_among n (path m g) ≡ false → m ≢ n
  differs m at off = elim (up_of g m moved.tidy_now at) [
    | top e z ↦ not_last n m [] (ap (is_among n) (sym z) ∙ off)
    | below q e a ↦ not_last n m (path q g) (ap (is_among n) (sym a.path_is) ∙ off)
  ]

  -- what n is not above
  pub connected-outside : (m : ℕ) → IsNode g m → is_among n (path m g) ≡ false → connected f m ≡ connected g m
  connected-outside = connected-same g f moved.tidy_now moved.tidy_before (λ m. is_among n (path m g) ≡ false)
      (λ q m a off. off_path n m (path q g) (ap (is_among n) (sym a.path_is) ∙ off)) was_node (λ m at off. moved.alike m at (differs m at off))

  inside : (k m : ℕ) → length (path m g) ≤ k → IsNode g m → is_among n (path m g) ≡ true → connected f m ≡ connected f n
  inside zero m short at on = absurd (omega (arith, short, path-long m g (node_stands g m moved.tidy_now at)))
  inside (suc k) m short at on = elim (cases_eq m n) [
    | inl e ↦ ap (connected f) e
    | inr ne ↦
        let link = same_above g f m (moved.alike m at ne) in
        elim (up_of g m moved.tidy_now at) [
          | top e z ↦ absurd (let away = on_path n m [] (ap (is_among n) (sym z) ∙ on) ne in cc)
          | below q e a ↦ elim (up_of f m moved.tidy_before (was_node m at)) [
            | top e' z' ↦ absurd cc
            | below q' e' a' ↦
                let one : q' ≡ q = cc in
                let near = a.nearer in
                connected-above f m q' moved.tidy_before a' ∙ ap (connected f) one
                ∙ inside k q (omega (arith, near, short)) a.is_node (on_path n m (path q g) (ap (is_among n) (sym a.path_is) ∙ on) ne)
          ]
        ]
  ]

  -- what n is above now was as connected as n
  pub connected-inside : (m : ℕ) → IsNode g m → is_among n (path m g) ≡ true → connected f m ≡ connected f n
  connected-inside m at on = inside (length (path m g)) m (omega arith) at on

  -- n is as connected as its new parent was
  pub connected-moved : (p : ℕ) → IsNode g n → parent_at g n ≡ Some p → connected g n ≡ connected f p
  connected-moved p at up =
      let a = parent-above g n p moved.tidy_now at up in
      connected-above g n p moved.tidy_now a ∙ sym (connected-outside p a.is_node (outside-path g n p moved.tidy_now a.outside))

-- a node put below another
pub moved-grafted : (rows rows' : List Spot) (f g : Trees) (p n : ℕ) (b : Option ℕ) → IsForest rows f → IsForest rows' g → Grafted rows rows' p n b
    → IsMoved f g n
moved-grafted rows rows' f g p n b a a' w = record {
  tidy_before = a.tidy;
  tidy_now = a'.tidy;
  long = omega (arith, a.counted, a'.counted, w.length_is);
  alike = λ m still ne.
      let low = still.low in
      let high = still.high in
      let at : IsNode f m = record { low = low; high = omega (arith, high, a.counted, a'.counted, w.length_is) } in
      let st = stands_at rows f m a at in
      let old = spot_at-is f m _ st.it.spot_is in
      let it = spot_of st.it.facts st.it.parent st.it.host st.it.shadow st.it.children in
      elim (cases_eq m p) [
        | inl e ↦
            let there : row_of_node rows' m ≡ Some (record it { children = insert_number b n it.children }) =
            row_written rows rows' m p it _ e st.row (w.there it) in
            let new = spot_at-is g m _ (row_is rows' g m _ a' still there) in
            record {
              parent = ap (λ (s : Spot). s.parent) old ∙ sym (ap (λ (s : Spot). s.parent) new);
              host = ap (λ (s : Spot). s.host) old ∙ sym (ap (λ (s : Spot). s.host) new);
              kind = ap (λ (s : Spot). s.facts.kind) old ∙ sym (ap (λ (s : Spot). s.facts.kind) new);
            }
        | inr ne_p ↦
            let same = sym (spot_at-is g m _ (row_is rows' g m _ a' still (w.others m low ne ne_p ∙ st.row)) ∙ sym old) in
            record { parent = ap (λ (s : Spot). s.parent) same; host = ap (λ (s : Spot). s.host) same; kind = ap (λ (s : Spot). s.facts.kind) same }
      ];
}

pub parent-grafted : (rows rows' : List Spot) (f g : Trees) (p n : ℕ) (b : Option ℕ) → IsForest rows f → IsForest rows' g → Grafted rows rows' p n b
    → IsNode f n → parent_at g n ≡ Some p
parent-grafted rows rows' f g p n b a a' w at =
    let low = at.low in
    let high = at.high in
    let st = stands_at rows f n a at in
    let still : IsNode g n = record { low = low; high = omega (arith, high, a.counted, a'.counted, w.length_is) } in
    parent_at-is g n _ (row_is rows' g n _ a' still (w.moved _ st.row))

-- a node taken out
pub moved-cut : (f g : Trees) (n : ℕ) → IsTidy f → IsTidy g → size g ≡ size f → IsNode f n → g ≡ cut f n → IsMoved f g n
moved-cut f g n tidy_f tidy_g long at is = record {
  tidy_before = tidy_f;
  tidy_now = tidy_g;
  long = long;
  alike = λ m still ne. record {
    parent = sym (ap (λ (v : Trees). parent_at v m) is ∙ parent_at-cut f n tidy_f at m ne);
    host = sym (ap (λ (v : Trees). host_at v m) is ∙ host_at-cut f n tidy_f at m ne);
    kind = sym (ap (λ (v : Trees). kind_at v m) is ∙ kind_at-cut f n tidy_f at m);
  };
}

-- a node that was made
pub connected-new : (n : ℕ) (x : Facts) (f g : Trees) → IsTidy f → IsTidy g → g ≡ with_node n x f → (m : ℕ) → IsNode f m → connected g m ≡ connected f m
connected-new n x f g tidy_f tidy_g is m at =
    let more = size-with_node n x f in
    let still = λ (k : ℕ) (at : IsNode f k). ap (λ v. spot_at v k) is ∙ spot_at-new n x f k tidy_f at in
    connected-same f g tidy_f tidy_g (λ k. ⊤) (λ q k a here. here)
    (λ k at. let low = at.low in let high = at.high in record { low = low; high = omega (arith, high, more, ap size is) })
    (λ k at here. record {
      parent = ap (λ (s : Spot). s.parent) (still k at);
      host = ap (λ (s : Spot). s.host) (still k at);
      kind = ap (λ (s : Spot). s.facts.kind) (still k at);
    }) m at tt

-- a shadow root that was made at its host
pub connected-attached : (rows rows' : List Spot) (f g : Trees) (h n : ℕ) (x : Facts) → IsForest rows f → IsForest rows' g → n ≡ length rows + 1
    → Attached rows rows' h n x → (m : ℕ) → IsNode f m → connected g m ≡ connected f m
connected-attached rows rows' f g h n x a a' last w m at =
    connected-same f g a.tidy a'.tidy (λ k. ⊤) (λ q k up here. here) over (λ k at here.
    let low = at.low in
    let high = at.high in
    let st = stands_at rows f k a at in
    let old = spot_at-is f k _ st.it.spot_is in
    let it = spot_of st.it.facts st.it.parent st.it.host st.it.shadow st.it.children in
    elim (cases_eq k h) [
      | inl e ↦
          let there : row_of_node rows' k ≡ Some (record it { shadow = n ∷ [] }) = row_written rows rows' k h it _ e st.row (w.there it) in
          let new = spot_at-is g k _ (row_is rows' g k _ a' (over k at) there) in
          record {
            parent = ap (λ (s : Spot). s.parent) new ∙ sym (ap (λ (s : Spot). s.parent) old);
            host = ap (λ (s : Spot). s.host) new ∙ sym (ap (λ (s : Spot). s.host) old);
            kind = ap (λ (s : Spot). s.facts.kind) new ∙ sym (ap (λ (s : Spot). s.facts.kind) old);
          }
      | inr ne ↦
          let same = spot_at-is g k _ (row_is rows' g k _ a' (over k at) (w.others k low (λ e. omega (arith, e, last, high, a.counted)) ne ∙ st.row))
          ∙ sym old in
          record { parent = ap (λ (s : Spot). s.parent) same; host = ap (λ (s : Spot). s.host) same; kind = ap (λ (s : Spot). s.facts.kind) same }
    ]) m at tt
  where
    over : (k : ℕ) → IsNode f k → IsNode g k
    over k at = let low = at.low in let high = at.high in record { low = low; high = omega (arith, high, a.counted, a'.counted, w.length_is) }

-- a change of a node's facts that leaves its kind
pub connected-with : (n : ℕ) (c : Facts → Facts) (f : Trees) → ((x : Facts) → (c x).kind ≡ x.kind) → (m : ℕ) → connected (with_facts n c f) m ≡ connected f m
connected-with n c f keeps m = rw (path-with n c m f) (ap is_document (kind_at-with n c f keeps (unwrap_or (first_of (path m f)) m)))
