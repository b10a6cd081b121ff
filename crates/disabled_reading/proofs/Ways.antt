-- The way up from a node: the node and its ancestors.
use Rattle.std.proofs.Common.{◌≡◌, ℕ, Bool, true, false, not, ◌<◌, ◌&&◌, ◌==◌, List, [], ◌∷◌, Option, Some, None, inl, inr, refl, ap, sym, subst, ◌∙◌, arith}
use Rattle.std.proofs.Common.{length}
use Rattle.std.proofs.lemmas.Bool.{cases_eq, false_from_ne_true}
use Rattle.std.proofs.lemmas.Bool.Decides.{nat_tests}
use Rattle.node_trees.specs.Trees.{Trees}
use Rattle.node_trees.specs.Nodes.{IsNode, IsTidy}
use Rattle.node_trees.specs.Paths.{is_among}
use Rattle.node_trees.specs.Spots.{parent_at}
use Rattle.form_controls.specs.Owners.{ancestors}
use Rattle.owner_reading.proofs.Ancestors.{ancestors-up, ancestors-top}
use Rattle.tree_laws.proofs.Above.{parent-above}

-- behind each stand its ancestors
abbrev IsWay : Trees → List ℕ → Type 0
IsWay f [] = Unit {0}
IsWay f (x ∷ xs) = (ancestors f x ≡ xs) × IsWay f xs

above-is_way : (f : Trees) (xs : List ℕ) (n : ℕ) → IsTidy f → IsNode f n → ancestors f n ≡ xs → IsWay f xs
above-is_way f [] n tidy node e = tt
above-is_way f (x ∷ xs) n tidy node e = by_parent (parent_at f n) refl (λ p. above-is_way f xs p tidy)
  where
    by_parent : (o : Option ℕ) → parent_at f n ≡ o → ((p : ℕ) → IsNode f p → ancestors f p ≡ xs → IsWay f xs) → IsWay f (x ∷ xs)
    by_parent None top more = absurd (let it = ancestors-top f n tidy node top in cc)
    by_parent (Some p) up more =
        let it = ancestors-up f n tidy node p up in
        let here : p ≡ x = cc in
        let above : ancestors f p ≡ xs = cc in
        (cc, more p (parent-above f n p tidy node up).is_node above)

above-nodes : (f : Trees) (xs : List ℕ) (n a : ℕ) → IsTidy f → IsNode f n → ancestors f n ≡ xs → is_among a xs ≡ true → IsNode f a
above-nodes f [] n a tidy node e among = absurd cc
above-nodes f (x ∷ xs) n a tidy node e among = by_parent (parent_at f n) refl (λ p. above-nodes f xs p a tidy)
  where
    by_parent : (o : Option ℕ) → parent_at f n ≡ o → ((p : ℕ) → IsNode f p → ancestors f p ≡ xs → is_among a xs ≡ true → IsNode f a) → IsNode f a
    by_parent None top more = absurd (let it = ancestors-top f n tidy node top in cc)
    by_parent (Some p) up more =
        let it = ancestors-up f n tidy node p up in
        let here : p ≡ x = cc in
        let above : ancestors f p ≡ xs = cc in
        let p_node = (parent-above f n p tidy node up).is_node in
        elim (cases_eq x a) [
          | inl same ↦ subst (IsNode f) (here ∙ same) p_node
          | inr other ↦ more p p_node above (grind (arith, nat_tests, other, among))
        ]

-- what stands on a way has less above it than the way is long
way-less : (f : Trees) (xs : List ℕ) (a : ℕ) → IsWay f xs → is_among a xs ≡ true → length (ancestors f a) < length xs
way-less f [] a way among = absurd cc
way-less f (x ∷ xs) a way among = grind (arith, nat_tests, ap length way.0, way-less f xs a way.1)

-- the parent of what stands on a way stands on it
way-up : (f : Trees) (xs : List ℕ) (a q : ℕ) → IsWay f xs → is_among a xs ≡ true → ancestors f a ≡ q ∷ ancestors f q → is_among q xs ≡ true
way-up f [] a q way among e = absurd cc
way-up f (x ∷ xs) a q way among e = grind (arith, nat_tests, ap (is_among q) way.0, ap (is_among q) e, way-up f xs a q way.1)

-- two on a way with the same above them are one
way-one : (f : Trees) (xs : List ℕ) (a b : ℕ) → IsWay f xs → is_among a xs ≡ true → is_among b xs ≡ true → ancestors f a ≡ ancestors f b → a ≡ b
way-one f [] a b way in_a in_b e = absurd cc
way-one f (x ∷ xs) a b way in_a in_b e =
    grind (arith, nat_tests, ap length way.0, ap length e, way-less f xs a way.1, way-less f xs b way.1, way-one f xs a b way.1)

module _ (f : Trees) (n : ℕ) (tidy : IsTidy f) (node : IsNode f n) where
  way : IsWay f (n ∷ ancestors f n)
  way = (refl, above-is_way f (ancestors f n) n tidy node refl)

  -- a step up
  pub on-way : (at q : ℕ) → IsNode f at → is_among at (n ∷ ancestors f n) ≡ true → Some q ≡ parent_at f at → is_among q (n ∷ ancestors f n) ≡ true
  on-way at q is among up = way-up f (n ∷ ancestors f n) at q way among (ancestors-up f at tidy is q (sym up))

  -- of the children of what is above n, that on the way is above n, unless it is n, and no other is
  pub child-on-way : (child other : ℕ) → is_among child (n ∷ ancestors f n) ≡ true → ancestors f other ≡ ancestors f child →
      is_among other (ancestors f n) ≡ (not (child == n) && other == child)
  child-on-way child other among same =
      let both : is_among other (ancestors f n) ≡ true → other ≡ child =
      λ h. way-one f (n ∷ ancestors f n) other child way (grind (arith, nat_tests)) among same in
      grind (arith, nat_tests, both, ap length same, way-less f (ancestors f n) other way.1)

  -- what is above n are nodes, and n is not among them
  pub above-node : (a : ℕ) → is_among a (ancestors f n) ≡ true → IsNode f a
  above-node a = above-nodes f (ancestors f n) n a tidy node refl

  pub above-apart : is_among n (ancestors f n) ≡ false
  above-apart = false_from_ne_true _ (λ among. omega (arith, way-less f (ancestors f n) n way.1 among))
