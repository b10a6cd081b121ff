-- The tree of a node, where a tree is taken out, and where one is put among the roots.
use Rattle.std.proofs.Common.{◌≡◌, ℕ, ◌+◌, ◌≤◌, refl, arith, inl, inr}
use Rattle.std.proofs.lemmas.Bool.{cases_eq}
use Rattle.std.proofs.lemmas.Bool.Decides.{nat_tests}
use Rattle.node_trees.specs.Trees.{Trees, none, tree, join, tree_of, without, place}
use Rattle.node_trees.specs.Nodes.{times}
use Rattle.node_trees.proofs.Weights.{IsApart}
use Rattle.node_trees.proofs.Absent.{without-absent, without-join}
use Rattle.tree_laws.proofs.Sums.{apart-shadow, apart-children, apart-rest, times-join, times-without}
use Rattle.tree_laws.proofs.Pieces.{tree_of-absent, tree_of-here}

-- trees side by side

tree_of-right : (r : ℕ) (f g : Trees) → times r f ≡ 0 → tree_of r (join f g) ≡ tree_of r g
tree_of-right r none g z = refl
tree_of-right r (tree m x s k q) g z =
    grind (arith, nat_tests, tree_of-right r q g (omega arith), tree_of-absent r s (omega arith), tree_of-absent r k (omega arith))

-- what is in the tree of r was in the list
inside-less : (i r : ℕ) (f : Trees) → times r f ≤ 1 → times i (tree_of r f) ≤ times i f
inside-less i r f one = omega (arith, times-without i r f one)

-- the tree of r, where a tree is taken out that r is not in
pub tree_of-without : (r n : ℕ) (f : Trees) → IsApart f → times r (tree_of n f) ≡ 0 → tree_of r (without n f) ≡ without n (tree_of r f)
tree_of-without r n none apart z = refl
tree_of-without r n (tree m x s k q) apart z =
    let one_n = apart n in
    let one_r = apart r in
    let in_s = inside-less n r s (omega arith) in
    let in_k = inside-less n r k (omega arith) in
    let in_q = inside-less n r q (omega arith) in
    let both = times-join n (tree_of r k) (tree_of r q) in
    elim (cases_eq m n) [
      | inl e ↦
          let here = tree_of-here n m x s k q e in
          let z_parts : times r (tree m x s k none) ≡ 0 = rw here at z in
          let gone : times n q ≡ 0 = grind (arith, nat_tests) in
          let same = without-absent n (tree_of r q) (omega arith) in
          grind (arith, nat_tests, same, tree_of-absent r s (omega arith), tree_of-absent r k (omega arith))
      | inr ne ↦
          let parts : tree_of n (tree m x s k q) ≡ join (tree_of n s) (join (tree_of n k) (tree_of n q)) = grind (arith, nat_tests) in
          let z_parts : times r (join (tree_of n s) (join (tree_of n k) (tree_of n q))) ≡ 0 = rw parts at z in
          let z_s = times-join r (tree_of n s) (join (tree_of n k) (tree_of n q)) in
          let z_k = times-join r (tree_of n k) (tree_of n q) in
          let on_s = tree_of-without r n s (apart-shadow m x s k q apart) (omega arith) in
          let on_k = tree_of-without r n k (apart-children m x s k q apart) (omega arith) in
          let on_q = tree_of-without r n q (apart-rest m x s k q apart) (omega arith) in
          let one : times n s + (times n k + times n q) ≤ 1 = grind (arith, nat_tests) in
          elim (cases_eq m r) [
            | inl at ↦ grind (arith, nat_tests)
            | inr away ↦ grind (
              arith,
              nat_tests,
              on_s,
              on_k,
              on_q,
              without-join n (tree_of r s) (join (tree_of r k) (tree_of r q)) (omega (arith, both)),
              without-join n (tree_of r k) (tree_of r q) (omega arith),
            )
          ]
    ]

-- where a tree is put among the roots: r is not in it, or r is

pub tree_of-place : (r n : ℕ) (t f : Trees) → times r t ≡ 0 → tree_of r (place n t f) ≡ tree_of r f
tree_of-place r n t none z = tree_of-absent r t z
tree_of-place r n t (tree m x s k q) z =
    grind (arith, nat_tests, tree_of-right r t (tree m x s k q) z, tree_of-place r n t q z)

tree_of-left : (r : ℕ) (f g : Trees) → times r g ≡ 0 → tree_of r (join f g) ≡ tree_of r f
tree_of-left r none g z = tree_of-absent r g z
tree_of-left r (tree m x s k q) g z = grind (arith, nat_tests, tree_of-left r q g z)

pub tree_of-place-in : (r n : ℕ) (t f : Trees) → times r f ≡ 0 → tree_of r (place n t f) ≡ tree_of r t
tree_of-place-in r n t none z = refl
tree_of-place-in r n t (tree m x s k q) z =
    grind (
      arith,
      nat_tests,
      tree_of-left r t (tree m x s k q) z,
      tree_of-place-in r n t q (omega arith),
      tree_of-absent r s (omega arith),
      tree_of-absent r k (omega arith),
    )
