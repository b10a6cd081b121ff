-- What stands in rows after a change of the rows.
use Rattle.std.proofs.Common.{◌≡◌, ◌≢◌, ℕ, ◌<◌, ◌≤◌, List, [], Option, Some, None, refl, ap, sym, ◌∙◌, subst, arith, inl, inr, cond, ltb, true, false}
use Rattle.std.proofs.lemmas.Bool.Decides.{nat_tests}
use Rattle.std.proofs.lemmas.Bool.{cases_lt, cases_eq}
use Rattle.node_trees.specs.Facts.{Facts}
use Rattle.node_trees.specs.Trees.{Trees, none, tree, join, roots, tree_of, without, place, before, put, is_number, single, with_shadow}
use Rattle.node_trees.specs.Spots.{Spot, spot_of, spot_in}
use Rattle.node_trees.specs.Nodes.{times}
use Rattle.tree_laws.specs.Numbers.{remove_number, insert_number}
use Rattle.tree_laws.specs.Rows.{row_of_node, Stands, Attached}
use Rattle.tree_laws.proofs.Pieces.{spot-here, spot-shadow, spot-children, spot-rest, tree_of-shadow, tree_of-children, tree_of-rest}
use Rattle.tree_laws.proofs.Inside.{Found, found}
use Rattle.tree_laws.proofs.PutSpots.{roots-before, roots-put}
use Rattle.tree_laws.proofs.Lists.{roots-without}
use Rattle.tree_laws.proofs.ShadowReads.{roots-shadow}
use Rattle.node_trees.proofs.Weights.{IsApart}
use Rattle.node_trees.proofs.Absent.{without-absent}

-- rows that agree on the numbers of the trees
pub Stands-frame : (rows rows' : List Spot) (p h : Option ℕ) (f : Trees) → Stands rows p h f
    → ((m : ℕ) → 0 < m → 0 < times m f → row_of_node rows' m ≡ row_of_node rows m) → Stands rows' p h f
Stands-frame rows rows' p h none st same = tt
Stands-frame rows rows' p h (tree m x s k r) st same = (
  st.0,
  same m st.0 (grind (arith, nat_tests)) ∙ st.1,
  Stands-frame rows rows' None (Some m) s st.2 (λ i lo pos. same i lo (omega arith)),
  Stands-frame rows rows' (Some m) None k st.3 (λ i lo pos. same i lo (omega arith)),
  Stands-frame rows rows' p h r st.4 (λ i lo pos. same i lo (omega arith)),
)

pub Stands-join : (rows : List Spot) (p h : Option ℕ) (f g : Trees) → Stands rows p h f → Stands rows p h g → Stands rows p h (join f g)
Stands-join rows p h none g a b = b
Stands-join rows p h (tree m x s k r) g a b = (a.0, a.1, a.2, a.3, Stands-join rows p h r g a.4 b)

-- the tree of a node, under what is above the node
pub Stands-tree_of : (rows : List Spot) (p h : Option ℕ) (n : ℕ) (f : Trees) (it : Spot) → Stands rows p h f → times n f ≡ 1 → spot_in p h n f ≡ Some it
    → Stands rows it.parent it.host (tree_of n f)
Stands-tree_of rows p h n none it st one is = absurd (omega arith)
Stands-tree_of rows p h n (tree m x s k r) it st one is =
    elim (cases_eq m n) [
      | inl e ↦
          let same : it ≡ spot_of x p h s k = cc (is, spot-here p h n m x s k r e) in
          let whole : tree_of n (tree m x s k r) ≡ tree m x s k none = grind (arith, nat_tests) in
          rw (whole, same) (st.0, st.1, st.2, st.3, tt)
      | inr ne ↦ elim (cases_lt 0 (times n s)) [
        | inl a ↦
            let here : times n s ≡ 1 = grind (arith, nat_tests) in
            let no_k : times n k ≡ 0 = grind (arith, nat_tests) in
            let no_r : times n r ≡ 0 = grind (arith, nat_tests) in
            rw (tree_of-shadow n m x s k r ne no_k no_r)
            (Stands-tree_of rows None (Some m) n s it st.2 here (cc (is, spot-shadow p h n m x s k r ne no_k no_r)))
        | inr out ↦
            let no_s : times n s ≡ 0 = omega arith in
            elim (cases_lt 0 (times n k)) [
              | inl a ↦
                  let here : times n k ≡ 1 = grind (arith, nat_tests) in
                  let no_r : times n r ≡ 0 = grind (arith, nat_tests) in
                  rw (tree_of-children n m x s k r ne no_s no_r)
                  (Stands-tree_of rows (Some m) None n k it st.3 here (cc (is, spot-children p h n m x s k r ne no_s no_r)))
              | inr off ↦
                  let no_k : times n k ≡ 0 = omega arith in
                  let here : times n r ≡ 1 = grind (arith, nat_tests) in
                  rw (tree_of-rest n m x s k r ne no_s no_k) (Stands-tree_of rows p h n r it st.4 here (cc (is, spot-rest p h n m x s k r ne no_s no_k)))
            ]
      ]
    ]

-- a node of the trees with its row, and what is below it
pub record Standing (rows : List Spot) (n : ℕ) (f : Trees) : Type 0 where
  pub it : Found None None n f
  pub row : row_of_node rows n ≡ Some (spot_of it.facts it.parent it.host it.shadow it.children)
  pub in_shadow : Stands rows None (Some n) it.shadow
  pub in_children : Stands rows (Some n) None it.children

pub standing : (rows : List Spot) (n : ℕ) (f : Trees) → Stands rows None None f → IsApart f → times n f ≡ 1 → Standing rows n f
standing rows n f st apart one =
    let it = found None None n f apart (omega (arith, one)) in
    let whole : Stands rows it.parent it.host (tree n it.facts it.shadow it.children none) =
    subst (Stands rows it.parent it.host) it.tree_is
    (Stands-tree_of rows None None n f (spot_of it.facts it.parent it.host it.shadow it.children) st one it.spot_is) in
    record { it = it; row = whole.1; in_shadow = whole.2; in_children = whole.3 }

-- the children without one

-- n is taken from the children of all others, and is no shadow root
pub record Unlinked (rows rows' : List Spot) (n : ℕ) : Type 0 where
  pub others : (m : ℕ) (row : Spot) → 0 < m → m ≢ n → row_of_node rows m ≡ Some row
      → row_of_node rows' m ≡ Some (record row { children = remove_number n row.children })
  pub no_host : (row : Spot) → row_of_node rows n ≡ Some row → row.host ≡ None

not_in_shadow : (rows : List Spot) (n m : ℕ) (s : Trees) → ((row : Spot) → row_of_node rows n ≡ Some row → row.host ≡ None) → Stands rows None (Some m) s
    → remove_number n (roots s) ≡ roots s
not_in_shadow rows n m none no_host st = refl
not_in_shadow rows n m (tree j x s k r) no_host st =
    elim (cases_eq j n) [
      | inl e ↦ let wrong = no_host (spot_of x None (Some m) s k) (rw e at st.1) in cc
      | inr ne ↦ grind (arith, nat_tests, not_in_shadow rows n m r no_host st.4)
    ]

pub Stands-without : (rows rows' : List Spot) (p h : Option ℕ) (n : ℕ) (f : Trees) → Unlinked rows rows' n → Stands rows p h f → times n f ≤ 1
    → Stands rows' p h (without n f)
Stands-without rows rows' p h n none un st one = tt
Stands-without rows rows' p h n (tree m x s k r) un st one =
    elim (cases_eq m n) [
      | inl e ↦
          let gone : times n r ≡ 0 = grind (arith, nat_tests) in
          let is : without n (tree m x s k r) ≡ without n r = grind (arith, nat_tests, without-absent n r gone) in
          subst (Stands rows' p h) (sym is) (Stands-without rows rows' p h n r un st.4 (omega arith))
      | inr ne ↦
          let is : without n (tree m x s k r) ≡ tree m x (without n s) (without n k) (without n r) = grind (arith, nat_tests) in
          let here = un.others m (spot_of x p h s k) st.0 ne st.1 in
          let shadow : roots (without n s) ≡ roots s = roots-without n s ∙ not_in_shadow rows n m s un.no_host st.2 in
          subst (Stands rows' p h) (sym is) (
            st.0,
            rw (shadow, roots-without n k) here,
            Stands-without rows rows' None (Some m) n s un st.2 (omega arith),
            Stands-without rows rows' (Some m) None n k un st.3 (omega arith),
            Stands-without rows rows' p h n r un st.4 (omega arith),
          )
    ]

pub Stands-place : (rows : List Spot) (n : ℕ) (t f : Trees) → Stands rows None None t → Stands rows None None f → Stands rows None None (place n t f)
Stands-place rows n t none new st = new
Stands-place rows n t (tree m x s k r) new st =
    elim (ltb n m) as (λ v. Stands rows None None (cond v (join t (tree m x s k r)) (tree m x s k (place n t r)))) [
      | true ↦ Stands-join rows None None t (tree m x s k r) new st
      | false ↦ (st.0, st.1, st.2, st.3, Stands-place rows n t r new st.4)
    ]

-- the children with one more

-- n is put among the children of p
pub record Linked (rows rows' : List Spot) (p n : ℕ) (b : Option ℕ) : Type 0 where
  pub there : (row : Spot) → row_of_node rows p ≡ Some row → row_of_node rows' p ≡ Some (record row { children = insert_number b n row.children })
  pub others : (m : ℕ) → 0 < m → m ≢ n → m ≢ p → row_of_node rows' m ≡ row_of_node rows m

pub Stands-untouched : (rows rows' : List Spot) (p n : ℕ) (b : Option ℕ) (up h : Option ℕ) (f : Trees) → Linked rows rows' p n b → times n f ≡ 0
    → times p f ≡ 0 → Stands rows up h f → Stands rows' up h f
Stands-untouched rows rows' p n b up h f li out away st =
    Stands-frame rows rows' up h f st (λ i lo pos. li.others i lo (λ j. omega (arith, ap (λ v. times v f) j)) (λ j. omega (arith, ap (λ v. times v f) j)))

Stands-before : (rows : List Spot) (p h : Option ℕ) (b : Option ℕ) (t f : Trees) → Stands rows p h t → Stands rows p h f → Stands rows p h (before b t f)
Stands-before rows p h b t none new st = new
Stands-before rows p h b t (tree m x s k r) new st =
    elim (is_number b m) as (λ v. Stands rows p h (cond v (join t (tree m x s k r)) (tree m x s k (before b t r)))) [
      | true ↦ Stands-join rows p h t (tree m x s k r) new st
      | false ↦ (st.0, st.1, st.2, st.3, Stands-before rows p h b t r new st.4)
    ]

pub Stands-put : (rows rows' : List Spot) (p n : ℕ) (b : Option ℕ) (y : Facts) (t l : Trees) (up h : Option ℕ) (f : Trees) → Linked rows rows' p n b
    → times n f ≡ 0 → times p f ≤ 1
    → Stands rows' (Some p) None (tree n y t l none) → Stands rows up h f → Stands rows' up h (put p b (tree n y t l none) f)
Stands-put rows rows' p n b y t l up h none li out one new st = tt
Stands-put rows rows' p n b y t l up h (tree m x s k r) li out one new st =
    let apart : m ≢ n = grind (arith, nat_tests) in
    elim (cases_eq m p) [
      | inl e ↦
          let is : put p b (tree n y t l none) (tree m x s k r) ≡ tree m x s (before b (tree n y t l none) k) r = grind (arith, nat_tests) in
          let row : row_of_node rows p ≡ Some (spot_of x up h s k) = rw e at st.1 in
          let here : row_of_node rows' m ≡ Some (spot_of x up h s (before b (tree n y t l none) k)) = rw (e, roots-before b n y t l k) (li.there _ row) in
          let away_s : times p s ≡ 0 = grind (arith, nat_tests) in
          let away_k : times p k ≡ 0 = grind (arith, nat_tests) in
          let away_r : times p r ≡ 0 = grind (arith, nat_tests) in
          subst (Stands rows' up h) (sym is) (
            st.0,
            here,
            Stands-untouched rows rows' p n b None (Some m) s li (omega arith) away_s st.2,
            Stands-before rows' (Some m) None b (tree n y t l none) k (rw e new)
                (Stands-untouched rows rows' p n b (Some m) None k li (omega arith) away_k st.3),
            Stands-untouched rows rows' p n b up h r li (omega arith) away_r st.4,
          )
      | inr ne ↦
          let is : put p b (tree n y t l none) (tree m x s k r)
          ≡ tree m x (put p b (tree n y t l none) s) (put p b (tree n y t l none) k) (put p b (tree n y t l none) r) = grind (arith, nat_tests) in
          let here = li.others m st.0 apart ne in
          subst (Stands rows' up h) (sym is) (
            st.0,
            rw (roots-put p b (tree n y t l none) s, roots-put p b (tree n y t l none) k) (here ∙ st.1),
            Stands-put rows rows' p n b y t l None (Some m) s li (omega arith) (omega arith) new st.2,
            Stands-put rows rows' p n b y t l (Some m) None k li (omega arith) (omega arith) new st.3,
            Stands-put rows rows' p n b y t l up h r li (omega arith) (omega arith) new st.4,
          )
    ]

-- a shadow tree of one node at a host that had none

roots-none : (f : Trees) → roots f ≡ [] → f ≡ none
roots-none none e = refl
roots-none (tree m x s k r) e = cc

module _ (rows rows' : List Spot) (h n : ℕ) (y : Facts) (at : Attached rows rows' h n y) (pos : 0 < n) (bare : (row : Spot) → row_of_node rows h ≡ Some row
    → row.shadow ≡ []) where
  aside : (p q : Option ℕ) (f : Trees) → times n f ≡ 0 → times h f ≡ 0 → Stands rows p q f → Stands rows' p q f
  aside p q f out away st = Stands-frame rows rows' p q f st
      (λ i lo in_f. at.others i lo (λ j. omega (arith, ap (λ v. times v f) j)) (λ j. omega (arith, ap (λ v. times v f) j)))

  pub Stands-with_shadow : (p q : Option ℕ) (f : Trees) → times n f ≡ 0 → times h f ≤ 1 → Stands rows p q f → Stands rows' p q (with_shadow h (single n y) f)
  Stands-with_shadow p q none out one st = tt
  Stands-with_shadow p q (tree m x s k r) out one st =
      let apart : m ≢ n = grind (arith, nat_tests) in
      elim (cases_eq m h) [
        | inl e ↦
            let row : row_of_node rows h ≡ Some (spot_of x p q s k) = rw e at st.1 in
            let empty : s ≡ none = roots-none s (bare (spot_of x p q s k) row) in
            let is : with_shadow h (single n y) (tree m x s k r) ≡ tree m x (single n y) k r = rw empty (grind (arith, nat_tests)) in
            let here : row_of_node rows' m ≡ Some (spot_of x p q (single n y) k) = rw e (at.there (spot_of x p q s k) row) in
            let away_k : times h k ≡ 0 = grind (arith, nat_tests) in
            let away_r : times h r ≡ 0 = grind (arith, nat_tests) in
            let new : Stands rows' None (Some m) (single n y) = (pos, rw e at.made, tt, tt, tt) in
            subst (Stands rows' p q) (sym is) (
              st.0,
              here,
              new,
              aside (Some m) None k (omega arith) away_k st.3,
              aside p q r (omega arith) away_r st.4,
            )
        | inr ne ↦
            let is : with_shadow h (single n y) (tree m x s k r)
            ≡ tree m x (with_shadow h (single n y) s) (with_shadow h (single n y) k) (with_shadow h (single n y) r) = grind (arith, nat_tests) in
            let here = at.others m st.0 apart ne in
            subst (Stands rows' p q) (sym is) (
              st.0,
              rw (roots-shadow h (single n y) s, roots-shadow h (single n y) k) (here ∙ st.1),
              Stands-with_shadow None (Some m) s (omega arith) (omega arith) st.2,
              Stands-with_shadow (Some m) None k (omega arith) (omega arith) st.3,
              Stands-with_shadow p q r (omega arith) (omega arith) st.4,
            )
      ]
