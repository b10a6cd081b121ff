-- The ancestors of a node: it stands in the order of each one's tree.
use Rattle.std.proofs.Common.{◌≡◌, ℕ, true, ◌==◌, List, [], ◌∷◌, ◌++◌, ap, sym, ◌∙◌, arith, inl, inr}
use Rattle.std.proofs.lemmas.Bool.{cases_eq, or_cases}
use Rattle.std.proofs.lemmas.Bool.Decides.{nat_tests}
use Rattle.node_trees.specs.Facts.{Facts}
use Rattle.node_trees.specs.Trees.{Trees, none, tree}
use Rattle.node_trees.specs.Nodes.{IsTidy}
use Rattle.node_trees.specs.Orders.{tree_order, tree_order_of}
use Rattle.node_trees.specs.Paths.{is_among}
use Rattle.node_trees.proofs.Absent.{is_among-append}
use Rattle.node_trees.proofs.Weights.{IsApart}
use Rattle.tree_laws.proofs.Pieces.{tree_of-here, tree_of-shadow, tree_of-children, tree_of-rest}
use Rattle.tree_laws.proofs.Sums.{tidy-apart, apart-shadow, apart-children, apart-rest}
use Rattle.form_controls.specs.Owners.{ancestors_below, ancestors}
use Rattle.above_reading.proofs.Roots.{order-there}

-- an ancestor of n in a list of trees: one of those above the list, and n is in the list's order, or one in the list, and n is in its order
data Ancestor (above : List ℕ) (a n : ℕ) (f : Trees) : Type 0 where
  outer : is_among a above ≡ true → is_among n (tree_order f) ≡ true → Ancestor above a n f
  inner : is_among n (tree_order_of f a) ≡ true → Ancestor above a n f

module _ (above : List ℕ) (a n m : ℕ) (x : Facts) (s k r : Trees) (apart : IsApart (tree m x s k r)) where
  from_shadow : Ancestor [] a n s → Ancestor above a n (tree m x s k r)
  from_shadow (outer i o) = absurd cc
  from_shadow (inner o) =
      let low = order-there a n s o in
      let one = apart a in
      inner (ap (λ t. is_among n (tree_order t)) (tree_of-shadow a m x s k r (grind (arith, nat_tests)) (grind (arith, nat_tests)) (grind (arith, nat_tests)))
      ∙ o)

  from_children : Ancestor (m ∷ above) a n k → Ancestor above a n (tree m x s k r)
  from_children (outer i o) = elim (or_cases (m == a) (is_among a above) i) [
    | inl e ↦ inner (ap (λ t. is_among n (tree_order t)) (tree_of-here a m x s k r (grind (arith, nat_tests)))
        ∙ grind (arith, nat_tests, is_among-append n (tree_order k) []))
    | inr there ↦ outer there (grind (arith, nat_tests, is_among-append n (tree_order k) (tree_order r)))
  ]
  from_children (inner o) =
      let low = order-there a n k o in
      let one = apart a in
      inner (ap (λ t. is_among n (tree_order t)) (tree_of-children a m x s k r (grind (arith, nat_tests)) (grind (arith, nat_tests)) (grind (arith, nat_tests)))
      ∙ o)

  from_rest : Ancestor above a n r → Ancestor above a n (tree m x s k r)
  from_rest (outer i o) = outer i (grind (arith, nat_tests, is_among-append n (tree_order k) (tree_order r)))
  from_rest (inner o) =
      let low = order-there a n r o in
      let one = apart a in
      inner (ap (λ t. is_among n (tree_order t)) (tree_of-rest a m x s k r (grind (arith, nat_tests)) (grind (arith, nat_tests)) (grind (arith, nat_tests)))
      ∙ o)

ancestor : (above : List ℕ) (a n : ℕ) (f : Trees) → IsApart f → is_among a (ancestors_below above n f) ≡ true → Ancestor above a n f
ancestor above a n none apart h = absurd cc
ancestor above a n (tree m x s k r) apart h =
    let in_s = ancestor [] a n s (apart-shadow m x s k r apart) in
    let in_k = ancestor (m ∷ above) a n k (apart-children m x s k r apart) in
    let in_r = ancestor above a n r (apart-rest m x s k r apart) in
    elim (cases_eq m n) [
      | inl e ↦
          let is : ancestors_below above n (tree m x s k r) ≡ above = grind (arith, nat_tests) in
          outer (rw is at h) (grind (arith, nat_tests))
      | inr ne ↦
          let parts : ancestors_below above n (tree m x s k r) ≡ (ancestors_below [] n s ++ ancestors_below (m ∷ above) n k) ++ ancestors_below above n r =
          grind (arith, nat_tests) in
          let all : is_among a ((ancestors_below [] n s ++ ancestors_below (m ∷ above) n k) ++ ancestors_below above n r) ≡ true = rw parts at h in
          elim (or_cases _ _ (sym (is_among-append a (ancestors_below [] n s ++ ancestors_below (m ∷ above) n k) (ancestors_below above n r)) ∙ all)) [
            | inl v ↦ elim (or_cases _ _ (sym (is_among-append a (ancestors_below [] n s) (ancestors_below (m ∷ above) n k)) ∙ v)) [
              | inl u ↦ from_shadow above a n m x s k r apart (in_s u)
              | inr w ↦ from_children above a n m x s k r apart (in_k w)
            ]
            | inr u ↦ from_rest above a n m x s k r apart (in_r u)
          ]
    ]

pub ancestor-order : (f : Trees) (a n : ℕ) → IsTidy f → is_among a (ancestors f n) ≡ true → is_among n (tree_order_of f a) ≡ true
ancestor-order f a n tidy h = by_place (ancestor [] a n f (tidy-apart f tidy) h)
  where
    by_place : Ancestor [] a n f → is_among n (tree_order_of f a) ≡ true
    by_place (outer i o) = absurd cc
    by_place (inner o) = o
