-- How many nodes there are after each change.
use Rattle.std.proofs.Common.{◌≡◌, ℕ, ◌+◌, Option, arith, inl, inr}
use Rattle.std.proofs.lemmas.Bool.Decides.{nat_tests}
use Rattle.std.proofs.lemmas.Bool.{cases_lt}
use Rattle.node_trees.specs.Facts.{Facts}
use Rattle.node_trees.specs.Trees.{Trees, tree_of, without, cut, graft, with_node, single, with_shadow}
use Rattle.node_trees.specs.Nodes.{weight, times, size, IsNode, IsTidy}
use Rattle.tree_laws.proofs.Sums.{tidy-apart, times-without}
use Rattle.node_trees.proofs.Weights.{weight-join, weight-without, weight-place, weight-put, weight-shadow}

module _ (w : ℕ → Facts → ℕ) where
  pub weight-cut : (f : Trees) (n : ℕ) → IsTidy f → weight w (cut f n) ≡ weight w f
  weight-cut f n tidy = omega (arith, weight-place w n (tree_of n f) (without n f), weight-without w n f (tidy-apart f tidy n))

  pub weight-graft : (f : Trees) (p n : ℕ) (b : Option ℕ) → IsTidy f → IsNode f p → times p (tree_of n f) ≡ 0 → weight w (graft f p n b) ≡ weight w f
  weight-graft f p n b tidy node_p outside =
      let all = weight-without w n f (tidy-apart f tidy n) in
      let one : times p (without n f) ≡ 1 = omega (arith, times-without p n f (tidy-apart f tidy n), tidy.once p node_p) in
      let put_in = weight-put w p b (tree_of n f) (without n f) (omega arith) in
      grind (arith, nat_tests, all, one, put_in)

  pub weight-with_node : (n : ℕ) (x : Facts) (f : Trees) → weight w (with_node n x f) ≡ weight w f + w n x
  weight-with_node n x f = omega (arith, weight-join w f (single n x))

  pub weight-with_shadow : (h : ℕ) (t f : Trees) → times h f ≡ 1 → weight w (with_shadow h t f) ≡ weight w t + weight w f
  weight-with_shadow h t f one = let all = weight-shadow w h t f (omega arith) in grind (arith, nat_tests, all)

-- ---- how many

pub size-cut : (f : Trees) (n : ℕ) → IsTidy f → size (cut f n) ≡ size f
size-cut = weight-cut (λ m x. 1)

pub size-graft : (f : Trees) (p n : ℕ) (b : Option ℕ) → IsTidy f → IsNode f p → times p (tree_of n f) ≡ 0 → size (graft f p n b) ≡ size f
size-graft = weight-graft (λ m x. 1)

pub size-with_node : (n : ℕ) (x : Facts) (f : Trees) → size (with_node n x f) ≡ size f + 1
size-with_node = weight-with_node (λ m x. 1)

pub size-with_shadow : (h n : ℕ) (x : Facts) (f : Trees) → IsTidy f → IsNode f h → size (with_shadow h (single n x) f) ≡ size f + 1
size-with_shadow h n x f tidy node = omega (arith, weight-with_shadow (λ m x. 1) h (single n x) f (tidy.once h node))

-- the next number, which no node has
pub new-absent : (f : Trees) → IsTidy f → times (size f + 1) f ≡ 0
new-absent f tidy = elim (cases_lt 0 (times (size f + 1) f)) [
  | inl low ↦ let node = tidy.only (size f + 1) low in absurd (omega (arith, node.high))
  | inr out ↦ omega arith
]

-- a node of trees is one of any with as many nodes
pub node-still : (f g : Trees) → size g ≡ size f → (i : ℕ) → IsNode g i → IsNode f i
node-still f g long i at =
    let low = at.low in
    let high = at.high in
    record { low = low; high = omega (arith, high, long) }
