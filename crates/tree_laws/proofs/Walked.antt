-- The shadow-including order of a node's tree: who is in it, and that it names nobody twice.
use Rattle.std.proofs.Common.{◌≡◌, ◌≢◌, ℕ, Bool, true, false, ◌+◌, ◌<◌, ◌||◌, List, [], ◌∷◌, ◌++◌, refl, sym, ap, ◌∙◌, subst, arith, inl, inr, length}
use Rattle.std.proofs.Common.{length-append, append_assoc}
use Rattle.std.proofs.lemmas.Bool.Decides.{nat_tests}
use Rattle.std.proofs.lemmas.Bool.{cases_eq, cases_lt}
use Rattle.node_trees.specs.Facts.{Facts}
use Rattle.node_trees.specs.Trees.{Trees, none, tree, join, tree_of}
use Rattle.node_trees.specs.Nodes.{times, IsTidy}
use Rattle.node_trees.specs.Orders.{order, order_of}
use Rattle.node_trees.specs.Paths.{path, under, is_among}
use Rattle.node_trees.proofs.Absent.{is_among-append, is_among-under}
use Rattle.node_trees.proofs.Weights.{IsApart}
use Rattle.tree_laws.proofs.Counts.{count, AreApart, count-append, among-count, count-absent}
use Rattle.tree_laws.proofs.Pieces.{path-absent, path-long, path-here, path-rest, tree_of-here}
use Rattle.tree_laws.proofs.Rooted.{path-inside}
use Rattle.tree_laws.proofs.Sums.{tidy-apart, apart-shadow, apart-children, apart-rest, times-without}

pub order-join : (f g : Trees) → order (join f g) ≡ order f ++ order g
order-join none g = refl
order-join (tree m x s k r) g =
    ap (λ xs. m ∷ xs) (rw (order-join r g, append_assoc (order s) (order k ++ order r) (order g), append_assoc (order k) (order r) (order g)) refl)

-- each node is in the order as often as in the trees

pub count-order : (i : ℕ) (f : Trees) → count i (order f) ≡ times i f
count-order i none = refl
count-order i (tree m x s k r) =
    omega (arith, count-order i s, count-order i k, count-order i r, count-append i (order s) (order k ++ order r), count-append i (order k) (order r))

pub order-apart : (n : ℕ) (f : Trees) → IsApart f → AreApart (order_of f n)
order-apart n f apart i = omega (arith, count-order i (tree_of n f), times-without i n f (apart n), apart i)

pub order-has : (i : ℕ) (f : Trees) → 0 < times i f → is_among i (order f) ≡ true
order-has i f low = among-count i (order f) (omega (arith, count-order i f))

pub order-lacks : (i : ℕ) (f : Trees) → times i f ≡ 0 → is_among i (order f) ≡ false
order-lacks i f z = count-absent i (order f) (omega (arith, count-order i f))

-- who is in the order of n: those on whose path n is

under-first : (m : ℕ) (xs : List ℕ) → 0 < length xs → is_among m (under m xs) ≡ true
under-first m [] long = absurd (omega arith)
under-first m (x ∷ xs) long = grind (arith, nat_tests)

-- a number that no node has is on no path
pub off-path : (n i : ℕ) (f : Trees) → times n f ≡ 0 → is_among n (path i f) ≡ false
off-path n i f z = by_test (is_among n (path i f)) refl
  where
    by_test : (b : Bool) → is_among n (path i f) ≡ b → is_among n (path i f) ≡ false
    by_test true e = let low = path-inside n i f e in absurd (omega arith)
    by_test false e = e

long-below : (i : ℕ) (s k : Trees) → 0 < times i s + times i k → 0 < length (path i s ++ path i k)
long-below i s k low = elim (cases_lt 0 (times i s)) [
  | inl a ↦ omega (arith, path-long i s a, length-append (path i s) (path i k))
  | inr b ↦ omega (arith, path-long i k (omega arith), length-append (path i s) (path i k))
]

or-assoc : (a b c : Bool) → ((a || b) || c) ≡ (a || (b || c))
or-assoc true b c = refl
or-assoc false b c = refl

module _ (n i m : ℕ) (x : Facts) (s k r : Trees) (apart : IsApart (tree m x s k r)) where
  path-parts : m ≢ i → path i (tree m x s k r) ≡ under m (path i s ++ path i k) ++ path i r
  path-parts ne = grind (arith, nat_tests)

  -- n is the first root
  walked-here : m ≡ n → is_among i (order (tree m x s k none)) ≡ is_among n (path i (tree m x s k r))
  walked-here e = elim (cases_eq m i) [
    | inl at ↦ rw (path-here i m x s k r at) (grind (arith, nat_tests))
    | inr ne ↦
        let one = apart n in
        elim (cases_lt 0 (times i s + times i k)) [
          | inl low ↦
              let first : is_among n (under m (path i s ++ path i k)) ≡ true =
              subst (λ v. is_among v (under m (path i s ++ path i k)) ≡ true) e (under-first m (path i s ++ path i k) (long-below i s k low)) in
              rw (path-parts ne) (order-has i (tree m x s k none) (omega arith)
              ∙ sym (is_among-append n (under m (path i s ++ path i k)) (path i r) ∙ ap (λ b. b || is_among n (path i r)) first))
          | inr z ↦
              let beside : is_among n (path i r) ≡ false = off-path n i r (grind (arith, nat_tests)) in
              rw (path-rest i m x s k r ne (omega arith) (omega arith)) (order-lacks i (tree m x s k none) (grind (arith, nat_tests)) ∙ sym beside)
        ]
  ]

  -- n is another
  walked-other : m ≢ n → is_among i (order_of s n) ≡ is_among n (path i s) → is_among i (order_of k n) ≡ is_among n (path i k)
      → is_among i (order_of r n) ≡ is_among n (path i r)
      → is_among i (order_of (tree m x s k r) n) ≡ is_among n (path i (tree m x s k r))
  walked-other other in_s in_k in_r = elim (cases_eq m i) [
    | inl at ↦
        let one = apart i in
        let out_s : is_among n (path i s) ≡ false = ap (is_among n) (path-absent i s (grind (arith, nat_tests))) in
        let out_k : is_among n (path i k) ≡ false = ap (is_among n) (path-absent i k (grind (arith, nat_tests))) in
        let out_r : is_among n (path i r) ≡ false = ap (is_among n) (path-absent i r (grind (arith, nat_tests))) in
        rw (path-here i m x s k r at) (parts ∙ grind (arith, nat_tests))
    | inr ne ↦
        let above : is_among n (under m (path i s ++ path i k)) ≡ (is_among n (path i s) || is_among n (path i k)) =
        is_among-under n m (path i s ++ path i k) other ∙ is_among-append n (path i s) (path i k) in
        rw (
          path-parts ne,
          is_among-append n (under m (path i s ++ path i k)) (path i r),
          above,
          or-assoc (is_among n (path i s)) (is_among n (path i k)) (is_among n (path i r)),
        ) parts
  ]
    where
      tree_is : tree_of n (tree m x s k r) ≡ join (tree_of n s) (join (tree_of n k) (tree_of n r))
      tree_is = grind (arith, nat_tests)

      parts : is_among i (order_of (tree m x s k r) n) ≡ (is_among n (path i s) || (is_among n (path i k) || is_among n (path i r)))
      parts =
          rw (tree_is, order-join (tree_of n s) (join (tree_of n k) (tree_of n r)), order-join (tree_of n k) (tree_of n r))
          (rw (is_among-append i (order_of s n) (order_of k n ++ order_of r n), is_among-append i (order_of k n) (order_of r n), in_s, in_k, in_r))

walked-apart : (n i : ℕ) (f : Trees) → IsApart f → is_among i (order (tree_of n f)) ≡ is_among n (path i f)
walked-apart n i none apart = refl
walked-apart n i (tree m x s k r) apart = elim (cases_eq m n) [
  | inl e ↦ rw (tree_of-here n m x s k r e) (walked-here n i m x s k r apart e)
  | inr ne ↦ walked-other n i m x s k r apart ne (walked-apart n i s (apart-shadow m x s k r apart)) (walked-apart n i k (apart-children m x s k r apart))
      (walked-apart n i r (apart-rest m x s k r apart))
]

pub walked : (f : Trees) (n i : ℕ) → IsTidy f → is_among i (order_of f n) ≡ is_among n (path i f)
walked f n i tidy = walked-apart n i f (tidy-apart f tidy)

-- a number off whose path n is stands outside the tree of n
pub stands-outside : (f : Trees) (n i : ℕ) → IsTidy f → is_among n (path i f) ≡ false → times i (tree_of n f) ≡ 0
stands-outside f n i tidy off = elim (cases_lt 0 (times i (tree_of n f))) [
  | inl low ↦ let on = order-has i (tree_of n f) low in let same = walked f n i tidy in absurd (cc)
  | inr z ↦ omega arith
]
