-- A node's tree in a forest: how often numbers stand in it, what a cut leaves outside of it, and the paths into it.
use Rattle.std.proofs.Common.{◌≡◌, ℕ, ◌+◌, ◌<◌, ◌≤◌, true, false, List, [], ◌∷◌, ◌++◌, refl, arith, inl, inr, if◌then◌else◌, ◌==◌}
use Rattle.std.specs.Prelude.{◌||◌}
use Rattle.std.proofs.lemmas.Bool.Decides.{nat_tests}
use Rattle.std.proofs.lemmas.Bool.{cases_eq, cases_lt}
use Rattle.ce_algorithms.specs.Create.{has_any}
use Rattle.node_trees.specs.Trees.{Trees, none, tree, join, tree_of, without, place, cut}
use Rattle.node_trees.specs.Nodes.{times}
use Rattle.node_trees.specs.Paths.{path, under, is_among}
use Rattle.node_trees.proofs.Weights.{IsApart, weight-join, weight-without}
use Rattle.node_trees.proofs.Absent.{without-absent, without-join, is_among-append, is_among-under}

-- a node's tree has no more than there is
fewer : (i n : ℕ) (f : Trees) → times i (tree_of n f) ≤ times i f
fewer i n none = omega arith
fewer i n (tree m x s k r) =
    grind (
      arith,
      nat_tests,
      weight-join (λ j y. if j == i then 1 else 0) (tree_of n s) (join (tree_of n k) (tree_of n r)),
      weight-join (λ j y. if j == i then 1 else 0) (tree_of n k) (tree_of n r),
      fewer i n s,
      fewer i n k,
      fewer i n r,
    )

-- the node's tree taken out leaves the others

taken_out : (n : ℕ) (f : Trees) → times n f ≤ 1 → times n (without n f) ≡ 0
taken_out n none most = refl
taken_out n (tree m x s k r) most = grind (arith, nat_tests, taken_out n s (omega arith), taken_out n k (omega arith), taken_out n r (omega arith))

none_left : (n : ℕ) (f : Trees) → times n f ≤ 1 → without n (tree_of n f) ≡ none
none_left n none most = refl
none_left n (tree m x s k r) most =
    elim (cases_eq m n) [
      | inl e ↦ grind (arith, nat_tests)
      | inr ne ↦
          let a = none_left n s (omega arith) in
          let b = none_left n k (omega arith) in
          let c = none_left n r (omega arith) in
          let in_s = fewer n n s in
          let in_k = fewer n n k in
          let in_r = fewer n n r in
          let all = weight-join (λ j y. if j == n then 1 else 0) (tree_of n k) (tree_of n r) in
          let inner = without-join n (tree_of n k) (tree_of n r) (omega (arith, in_k, in_r, most)) in
          let outer = without-join n (tree_of n s) (join (tree_of n k) (tree_of n r)) (omega (arith, in_s, in_k, in_r, all, most)) in
          grind (arith, nat_tests, a, b, c, inner, outer)
    ]

without_placed : (n : ℕ) (t f : Trees) → times n t ≤ 1 → without n t ≡ none → times n f ≡ 0 → without n (place n t f) ≡ f
without_placed n t none most empty z = empty
without_placed n t (tree m x s k r) most empty z =
    let beside = without-join n t (tree m x s k r) (omega (arith, most, z)) in
    let same = without-absent n (tree m x s k r) z in
    let in_s = without-absent n s (omega arith) in
    let in_k = without-absent n k (omega arith) in
    let rest = without_placed n t r most empty (omega arith) in
    grind (arith, nat_tests, beside, same, in_s, in_k, rest, empty)

pub without_cut : (f : Trees) (n : ℕ) → IsApart f → without n (cut f n) ≡ without n f
without_cut f n apart =
    let most = apart n in
    let parts = weight-without (λ j y. if j == n then 1 else 0) n f most in
    without_placed n (tree_of n f) (without n f) (omega (arith, parts, most)) (none_left n f most) (taken_out n f most)

-- what stands in the tree of a node has the node on its path

any_more : (xs ys : List ℕ) → has_any (xs ++ ys) ≡ (has_any xs || has_any ys)
any_more [] ys = refl
any_more (x ∷ xs) ys = refl

any_under : (m : ℕ) (xs : List ℕ) → has_any (under m xs) ≡ has_any xs
any_under m [] = refl
any_under m (x ∷ xs) = refl

first_under : (n m : ℕ) (xs : List ℕ) → m ≡ n → has_any xs ≡ true → is_among n (under m xs) ≡ true
first_under n m [] e h = absurd (let x : false ≡ true = h in cc)
first_under n m (x ∷ xs) e h = grind (arith, nat_tests)

has_path : (i : ℕ) (f : Trees) → 0 < times i f → has_any (path i f) ≡ true
has_path i none there = absurd (omega arith)
has_path i (tree m x s k r) there =
    let in_s : 0 < times i s → has_any (path i s) ≡ true = λ h. has_path i s h in
    let in_k : 0 < times i k → has_any (path i k) ≡ true = λ h. has_path i k h in
    let in_r : 0 < times i r → has_any (path i r) ≡ true = λ h. has_path i r h in
    let all = any_more (under m (path i s ++ path i k)) (path i r) in
    let inner = any_under m (path i s ++ path i k) in
    let both = any_more (path i s) (path i k) in
    elim (cases_eq m i) [
      | inl e ↦ grind (arith, nat_tests)
      | inr ne ↦ elim (cases_lt 0 (times i s)) [
        | inl a ↦ let h = in_s a in grind (arith, nat_tests, h, all, inner, both)
        | inr b ↦ elim (cases_lt 0 (times i k)) [
          | inl a ↦ let h = in_k a in grind (arith, nat_tests, h, all, inner, both)
          | inr c ↦ let h = in_r (grind (arith, nat_tests)) in grind (arith, nat_tests, h, all, inner, both)
        ]
      ]
    ]

pub on_path : (n i : ℕ) (f : Trees) → IsApart f → 0 < times i (tree_of n f) → is_among n (path i f) ≡ true
on_path n i none apart there = absurd (omega arith)
on_path n i (tree m x s k r) apart there =
    let most = apart i in
    let in_s : 0 < times i (tree_of n s) → is_among n (path i s) ≡ true = λ h. on_path n i s (λ j. let a = apart j in omega (arith, a)) h in
    let in_k : 0 < times i (tree_of n k) → is_among n (path i k) ≡ true = λ h. on_path n i k (λ j. let a = apart j in omega (arith, a)) h in
    let in_r : 0 < times i (tree_of n r) → is_among n (path i r) ≡ true = λ h. on_path n i r (λ j. let a = apart j in omega (arith, a)) h in
    let all = is_among-append n (under m (path i s ++ path i k)) (path i r) in
    let both = is_among-append n (path i s) (path i k) in
    let less_s = fewer i n s in
    let less_k = fewer i n k in
    let less_r = fewer i n r in
    elim (cases_eq m n) [
      | inl e ↦ elim (cases_eq m i) [
        | inl same ↦ grind (arith, nat_tests)
        | inr other ↦
            let below : has_any (path i s ++ path i k) ≡ true = elim (cases_lt 0 (times i s)) [
              | inl a ↦ let h = has_path i s a in let more = any_more (path i s) (path i k) in grind (arith, h, more)
              | inr b ↦ let h = has_path i k (grind (arith, nat_tests)) in let more = any_more (path i s) (path i k) in grind (arith, h, more)
            ] in
            let first = first_under n m (path i s ++ path i k) e below in
            grind (arith, nat_tests, first, all)
      ]
      | inr ne ↦
          let inner = is_among-under n m (path i s ++ path i k) ne in
          let parts = weight-join (λ j y. if j == i then 1 else 0) (tree_of n s) (join (tree_of n k) (tree_of n r)) in
          let others = weight-join (λ j y. if j == i then 1 else 0) (tree_of n k) (tree_of n r) in
          let sum : times i (tree_of n (tree m x s k r)) ≡ times i (tree_of n s) + (times i (tree_of n k) + times i (tree_of n r)) =
          grind (arith, nat_tests, parts, others) in
          elim (cases_eq m i) [
            | inl same ↦ absurd (let one : 0 < times i s + (times i k + times i r) = omega (arith, sum, there, less_s, less_k, less_r) in
                grind (arith, nat_tests))
            | inr other ↦ elim (cases_lt 0 (times i (tree_of n s))) [
              | inl a ↦ let h = in_s a in grind (arith, nat_tests, h, all, inner, both)
              | inr b ↦ elim (cases_lt 0 (times i (tree_of n k))) [
                | inl a ↦ let h = in_k a in grind (arith, nat_tests, h, all, inner, both)
                | inr c ↦ let h = in_r (omega (arith, sum, there)) in grind (arith, nat_tests, h, all, inner, both)
              ]
            ]
          ]
    ]
