-- Rows stand for one forest at most.
use Rattle.std.specs.Prelude.{◌≡◌, ℕ, ◌+◌, ◌-◌, ◌<◌, ◌≤◌, ◌==◌, if◌then◌else◌, List, Option, Some, None, refl}
use Rattle.std.proofs.Common.{arith, ap, sym, subst, inl, inr}
use Rattle.std.proofs.lemmas.Bool.{cases_lt, cases_eq}
use Rattle.std.proofs.lemmas.Bool.Decides.{nat_tests}
use Rattle.std.proofs.lemmas.Option.{slice_get_within}
use Rattle.node_trees.specs.Facts.{Facts}
use Rattle.node_trees.specs.Trees.{Trees, none, tree, roots}
use Rattle.node_trees.specs.Spots.{Spot, spot_of}
use Rattle.node_trees.specs.Nodes.{Rises, times, IsNode}
use Rattle.tree_laws.specs.Rows.{Stands, IsForest, row_of_node}

-- trees with the same roots

same_row : (x y : Facts) (p h : Option ℕ) (s t k l : Trees) → spot_of x p h s k ≡ spot_of y p h t l → (x ≡ y) × (roots s ≡ roots t) × (roots k ≡ roots l)
same_row x y p h s t k l e = (ap (λ (v : Spot). v.facts) e, ap (λ (v : Spot). v.shadow) e, ap (λ (v : Spot). v.children) e)

Stands-roots : (rows : List Spot) (p h : Option ℕ) (f g : Trees) → Stands rows p h f → Stands rows p h g → roots f ≡ roots g → f ≡ g
Stands-roots rows p h none none a b e = refl
Stands-roots rows p h none (tree n y t l q) a b e = cc
Stands-roots rows p h (tree m x s k r) none a b e = cc
Stands-roots rows p h (tree m x s k r) (tree n y t l q) a b e =
    let here : m ≡ n = cc in
    let after : roots r ≡ roots q = cc in
    let b' : Stands rows p h (tree m y t l q) = subst (λ i. Stands rows p h (tree i y t l q)) (sym here) b in
    let same = same_row x y p h s t k l (cc (a.1, b'.1)) in
    cc (
      here,
      same.0,
      Stands-roots rows None (Some m) s t a.2 b'.2 same.1,
      Stands-roots rows (Some m) None k l a.3 b'.3 same.2,
      Stands-roots rows p h r q a.4 b'.4 after,
    )

-- how many roots have the number n
abbrev root_times : ℕ → Trees → ℕ
root_times n none = 0
root_times n (tree m x s k r) = (if m == n then 1 else 0) + root_times n r

root_times-low : (low n : ℕ) (f : Trees) → Rises low f → n ≤ low → root_times n f ≡ 0
root_times-low low n none up le = refl
root_times-low low n (tree m x s k r) up le = grind (arith, nat_tests, up.0, root_times-low m n r up.1)

-- roots that rise are told by how often each number is one
roots_agree : (low : ℕ) (f g : Trees) → Rises low f → Rises low g → ((n : ℕ) → root_times n f ≡ root_times n g) → roots f ≡ roots g
roots_agree low none none a b e = refl
roots_agree low none (tree n y t l q) a b e = absurd (grind (arith, nat_tests, e n))
roots_agree low (tree m x s k r) none a b e = absurd (grind (arith, nat_tests, e m))
roots_agree low (tree m x s k r) (tree n y t l q) a b e =
    elim (cases_lt m n) [
      | inl lt ↦ absurd (grind (arith, nat_tests, e m, root_times-low m m (tree n y t l q) (lt, b.1) (omega arith)))
      | inr ge ↦ elim (cases_lt n m) [
        | inl lt ↦ absurd (grind (arith, nat_tests, e n, root_times-low n n (tree m x s k r) (lt, a.1) (omega arith)))
        | inr le ↦
            let here : m ≡ n = omega arith in
            let b' : Rises m q = rw here b.1 in
            let e' : (i : ℕ) → root_times i r ≡ root_times i q = λ i. let each = e i in omega (arith, rw here at each) in
            cc (here, roots_agree m r q a.1 b' e')
      ]
    ]

-- roots are the nodes whose rows have neither a parent nor a host

root_row : (rows : List Spot) (p h : Option ℕ) (f : Trees) (n : ℕ) → Stands rows p h f → 0 < root_times n f
    → (0 < n) × ((row : Spot) × (row_of_node rows n ≡ Some row) × (row.parent ≡ p) × (row.host ≡ h))
root_row rows p h none n st pos = absurd (omega arith)
root_row rows p h (tree m x s k r) n st pos =
    elim (cases_eq m n) [
      | inl e ↦ (omega arith, (spot_of x p h s k, rw e at st.1, refl, refl))
      | inr ne ↦ root_row rows p h r n st.4 (grind (arith, nat_tests))
    ]

inner_row : (rows : List Spot) (p h : Option ℕ) (f : Trees) (n : ℕ) → Stands rows p h f → root_times n f ≡ 0 → 0 < times n f
    → (row : Spot) → row_of_node rows n ≡ Some row → row.parent ≡ None → row.host ≡ None → ⊥
inner_row rows p h none n st top pos row e pn hn = omega arith
inner_row rows p h (tree m x s k r) n st top pos row e pn hn =
    elim (cases_lt 0 (times n r)) [
      | inl more ↦ inner_row rows p h r n st.4 (omega arith) more row e pn hn
      | inr zr ↦ elim (cases_lt 0 (times n k)) [
        | inl more ↦ elim (cases_lt 0 (root_times n k)) [
          | inl at ↦ let found = root_row rows (Some m) None k n st.3 at in let same : row ≡ found.1.0 = cc (e, found.1.1) in cc (same, pn, found.1.2)
          | inr not ↦ inner_row rows (Some m) None k n st.3 (omega arith) more row e pn hn
        ]
        | inr zk ↦ elim (cases_lt 0 (root_times n s)) [
          | inl at ↦ let found = root_row rows None (Some m) s n st.2 at in let same : row ≡ found.1.0 = cc (e, found.1.1) in cc (same, hn, found.1.3)
          | inr not ↦ inner_row rows None (Some m) s n st.2 (omega arith) (grind (arith, nat_tests)) row e pn hn
        ]
      ]
    ]

-- what has a row is a node
pub node_of_row : (rows : List Spot) (f : Trees) (n : ℕ) (row : Spot) → IsForest rows f → 0 < n → row_of_node rows n ≡ Some row → IsNode f n
node_of_row rows f n row a lo at = record { low = lo; high = omega (arith, lo, a.counted, slice_get_within rows (n - 1) row at) }

root_in_both : (rows : List Spot) (f g : Trees) (n : ℕ) → IsForest rows f → IsForest rows g → 0 < root_times n f → 0 < root_times n g
root_in_both rows f g n a b pos =
    let from = root_row rows None None f n a.stands pos in
    elim (cases_lt 0 (root_times n g)) [
      | inl at ↦ at
      | inr not ↦
          absurd (inner_row rows None None g n b.stands (omega arith)
          (omega (arith, b.tidy.once n (node_of_row rows g n from.1.0 b from.0 from.1.1))) from.1.0 from.1.1 from.1.2 from.1.3)
    ]

root_times_le : (n : ℕ) (f : Trees) → root_times n f ≤ times n f
root_times_le n none = omega arith
root_times_le n (tree m x s k r) = omega (arith, root_times_le n r)

root_once : (rows : List Spot) (f : Trees) (n : ℕ) → IsForest rows f → 0 < root_times n f → root_times n f ≡ 1
root_once rows f n a pos =
    let from = root_row rows None None f n a.stands pos in
    omega (arith, root_times_le n f, a.tidy.once n (node_of_row rows f n from.1.0 a from.0 from.1.1))

pub IsForest-unique : (rows : List Spot) (f g : Trees) → IsForest rows f → IsForest rows g → f ≡ g
IsForest-unique rows f g a b =
    Stands-roots rows None None f g a.stands b.stands (roots_agree 0 f g a.tidy.rises b.tidy.rises (λ n.
    elim (cases_lt 0 (root_times n f)) [
      | inl at ↦ cc (root_once rows f n a at, root_once rows g n b (root_in_both rows f g n a b at))
      | inr out ↦ elim (cases_lt 0 (root_times n g)) [
        | inl at ↦ absurd (omega (arith, root_in_both rows g f n b a at))
        | inr away ↦ omega arith
      ]
    ]))
