-- Who is outside the tree of a node: what that node is below; and where another is, the root of that one's tree.
use Rattle.std.proofs.Common.{◌≡◌, ◌≢◌, ℕ, ◌+◌, ◌<◌, None, ap, ◌∙◌, subst, arith, inl, inr}
use Rattle.std.proofs.lemmas.Bool.{cases_lt}
use Rattle.std.proofs.lemmas.Bool.Decides.{nat_tests}
use Rattle.node_trees.specs.Facts.{Facts}
use Rattle.node_trees.specs.Trees.{Trees, none, tree, join, tree_of}
use Rattle.node_trees.specs.Nodes.{times, IsNode, IsTidy}
use Rattle.node_trees.specs.Paths.{root_at}
use Rattle.node_trees.proofs.Weights.{IsApart}
use Rattle.tree_laws.proofs.AtNode.{node_stands}
use Rattle.tree_laws.proofs.Inside.{found, tree_apart}
use Rattle.tree_laws.proofs.InOrder.{order-inside}
use Rattle.tree_laws.proofs.OrderSteps.{tree_of-inside}
use Rattle.tree_laws.proofs.Sums.{tidy-apart, times-join, times-without}
use Rattle.above_reading.proofs.Roots.{root-among}

-- what n is below is not below n

not_below_itself : (n r : ℕ) (x : Facts) (s k : Trees) → IsApart (tree n x s k none) → n ≢ r → times n (tree_of r (tree n x s k none)) ≡ 0
not_below_itself n r x s k apart ne =
    let one_n = apart n in
    let one_r = apart r in
    let is : tree_of r (tree n x s k none) ≡ join (tree_of r s) (join (tree_of r k) none) = grind (arith, nat_tests) in
    let less_s = times-without n r s (omega arith) in
    let less_k = times-without n r k (omega arith) in
    let here : times n s + times n k ≡ 0 = grind (arith, nat_tests) in
    rw is (omega (arith, times-join n (tree_of r s) (join (tree_of r k) none), times-join n (tree_of r k) none))

pub above-outside : (f : Trees) (n r : ℕ) → IsApart f → 0 < times n f → n ≢ r → 0 < times n (tree_of r f) → times r (tree_of n f) ≡ 0
above-outside f n r apart there ne low = elim (cases_lt 0 (times r (tree_of n f))) [
  | inl below ↦
      let it = found None None n f apart there in
      let its_tree : IsApart (tree n it.facts it.shadow it.children none) = subst IsApart it.tree_is (tree_apart n f apart) in
      let is : tree_of r f ≡ tree_of r (tree n it.facts it.shadow it.children none) = tree_of-inside n r f apart there below ∙ ap (tree_of r) it.tree_is in
      absurd (omega (arith, low, ap (times n) is, not_below_itself n r it.facts it.shadow it.children its_tree ne))
  | inr out ↦ omega arith
]

-- the root of a tree with a node outside is outside

pub root-outside : (f : Trees) (n i : ℕ) → IsTidy f → IsNode f n → IsNode f i → times i (tree_of n f) ≡ 0 → times (root_at f i) (tree_of n f) ≡ 0
root-outside f n i tidy node at out = elim (cases_lt 0 (times (root_at f i) (tree_of n f))) [
  | inl low ↦
      let apart = tidy-apart f tidy in
      let is = tree_of-inside n (root_at f i) f apart (node_stands f n tidy node) low in
      let inside = order-inside i (tree_of (root_at f i) f) (root-among f tidy i at) in
      absurd (omega (arith, inside, ap (times i) is, out, times-without i (root_at f i) (tree_of n f) (tree_apart n f apart (root_at f i))))
  | inr away ↦ omega arith
]
