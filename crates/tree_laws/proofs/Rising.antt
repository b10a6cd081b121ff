-- Roots in the order of their numbers, after each change.
use Rattle.std.proofs.Common.{◌≡◌, ℕ, ◌<◌, ◌≤◌, subst, arith, inl, inr}
use Rattle.std.proofs.lemmas.Bool.Decides.{nat_tests}
use Rattle.std.proofs.lemmas.Bool.{cases_lt, cases_eq}
use Rattle.node_trees.specs.Facts.{Facts}
use Rattle.node_trees.specs.Trees.{Trees, none, tree, roots, without, place, with_node}
use Rattle.node_trees.specs.Nodes.{times, Rises}

pub rises-lower : (low high : ℕ) (f : Trees) → low ≤ high → Rises high f → Rises low f
rises-lower low high none le h = tt
rises-lower low high (tree m x s k r) le h = (omega (arith, h.0), h.1)

-- it is a matter of the roots alone
pub rises-same : (low : ℕ) (f g : Trees) → roots f ≡ roots g → Rises low f → Rises low g
rises-same low none none e h = tt
rises-same low none (tree m x s k r) e h = absurd cc
rises-same low (tree m x s k r) none e h = absurd cc
rises-same low (tree m x s k r) (tree n y t l q) e h =
    let same : m ≡ n = cc in
    let on : roots r ≡ roots q = cc in
    (omega (arith, h.0, same), rises-same n r q on (subst (λ v. Rises v r) same h.1))

pub rises-without : (low n : ℕ) (f : Trees) → Rises low f → Rises low (without n f)
rises-without low n none h = tt
rises-without low n (tree m x s k r) h = elim (cases_eq m n) [
  | inl e ↦
      let is : without n (tree m x s k r) ≡ r = grind (arith, nat_tests) in
      rw is (rises-lower low m r (omega (arith, h.0)) h.1)
  | inr ne ↦
      let is : without n (tree m x s k r) ≡ tree m x (without n s) (without n k) (without n r) = grind (arith, nat_tests) in
      rw is (h.0, rises-without m n r h.1)
]

pub rises-place : (low n : ℕ) (x : Facts) (s k f : Trees) → low < n → times n f ≡ 0 → Rises low f → Rises low (place n (tree n x s k none) f)
rises-place low n x s k none less z h = (less, tt)
rises-place low n x s k (tree m y t l r) less z h = elim (cases_lt n m) [
  | inl before ↦
      let is : place n (tree n x s k none) (tree m y t l r) ≡ tree n x s k (tree m y t l r) = grind (arith, nat_tests) in
      rw is (less, (before, h.1))
  | inr after ↦
      let is : place n (tree n x s k none) (tree m y t l r) ≡ tree m y t l (place n (tree n x s k none) r) = grind (arith, nat_tests) in
      let behind : m < n = grind (arith, nat_tests) in
      rw is (h.0, rises-place m n x s k r behind (omega arith) h.1)
]

pub rises-new : (low n : ℕ) (x : Facts) (f : Trees) → low < n → ((i : ℕ) → 0 < times i f → i < n) → Rises low f → Rises low (with_node n x f)
rises-new low n x none less below h = (less, tt)
rises-new low n x (tree m y t l r) less below h =
    (h.0, rises-new m n x r (below m (grind (arith, nat_tests))) (λ i pos. below i (omega arith)) h.1)
