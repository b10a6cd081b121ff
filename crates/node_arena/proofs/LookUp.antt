-- The loop over the nodes that the index has for an id.
use Rattle.std.proofs.Common.{◌≡◌, ◌≢◌, ℕ, Bool, true, false, List, [], ◌∷◌, Option, Some, None, refl, ap, ◌∙◌, subst, arith, inl, inr}
use Rattle.std.specs.Prelude.{◌&&◌}
use Rattle.std.specs.List.{find}
use Rattle.std.specs.Option.{is_some}
use Rattle.std.proofs.lemmas.Bool.{cases_eq, and_parts}
use Rattle.std.proofs.lemmas.Bool.Decides.{nat_tests}
use Rattle.node_trees.specs.Ids.{has_id, first_with_id}
use Rattle.node_trees.specs.Nodes.{IsNode, IsNodeOrNone}
use Rattle.node_trees.specs.Orders.{tree_order_of}
use Rattle.node_trees.specs.Paths.{is_among}
use Rattle.node_trees.specs.Spots.{facts_at}
use Rattle.node_trees.specs.Trees.{Trees}
use Rattle.node_arena.specs.Holders.{is_holder}

-- ---- the first that passes

record IsFirst (p : ℕ → Bool) (xs : List ℕ) (k : ℕ) : Type 0 where
  passes : p k ≡ true
  among : is_among k xs ≡ true

find-some : (p : ℕ → Bool) (xs : List ℕ) (k : ℕ) → find p xs ≡ Some k → IsFirst p xs k
find-some p [] k e = absurd cc
find-some p (x ∷ xs) k e = elim (p x) as (λ b. p x ≡ b → IsFirst p (x ∷ xs) k) [
  | true ↦ λ t. let same : x ≡ k = let it =
      e in grind (arith, t, it) in record { passes = subst (λ v. p v ≡ true) same t; among = grind (arith, nat_tests, same) }
  | false ↦ λ t.
      let rest : find p xs ≡ Some k = let it = e in grind (arith, t, it) in
      let on = find-some p xs k rest in
      let in_rest = on.among in
      record { passes = on.passes; among = grind (arith, nat_tests, in_rest) }
] refl

find-none : (p : ℕ → Bool) (xs : List ℕ) → find p xs ≡ None → (m : ℕ) → is_among m xs ≡ true → p m ≡ false
find-none p [] e m among = absurd cc
find-none p (x ∷ xs) e m among = elim (p x) as (λ b. p x ≡ b → p m ≡ false) [
  | true ↦ λ t. absurd (let it = e in grind (arith, t, it))
  | false ↦ λ t.
      let rest : find p xs ≡ None = let it = e in grind (arith, t, it) in
      elim (cases_eq x m) [
        | inl same ↦ subst (λ v. p v ≡ false) same t
        | inr other ↦ find-none p xs rest m (let it = among in grind (arith, nat_tests, other, it))
      ]
] refl

-- where no other passes, the one that was found is the first
find-only : (p : ℕ → Bool) (xs : List ℕ) (o : Option ℕ) → ((m : ℕ) → p m ≡ true → is_among m xs ≡ true → o ≡ Some m)
    → ((m : ℕ) → o ≡ Some m → (p m && is_among m xs) ≡ true) → o ≡ find p xs
find-only p xs o only passes = go (find p xs) refl o refl
  where
    go : (r : Option ℕ) → find p xs ≡ r → (s : Option ℕ) → o ≡ s → o ≡ r
    go (Some k) e s is = let it = find-some p xs k e in only k it.passes it.among
    go None e None is = is
    go None e (Some m) is =
        let both = and_parts (p m) (is_among m xs) (passes m is) in
        absurd (let no = find-none p xs e m both.1 in let yes_is = both.0 in cc)

-- ---- what the loop keeps

-- what was found passes, and who passes is what was found, or is left
pub record Looking (f : Trees) (root : ℕ) (id : List ℕ) (found : Option ℕ) (left : List ℕ) : Type 0 where
  pub only : (m : ℕ) → is_holder f root id m ≡ true → is_among m left ≡ false → found ≡ Some m
  pub holds : (m : ℕ) → found ≡ Some m → is_holder f root id m ≡ true
  pub node : IsNodeOrNone f found

module _ (f : Trees) (root : ℕ) (id : List ℕ) where
  -- the index has who has the id
  pub look-start : (keys left : List ℕ) → left ≡ keys → ((m : ℕ) → has_id id (facts_at f m) ≡ true → is_among m keys ≡ true) → Looking f root id None left
  look-start keys left e covers = record {
    only = λ m holder out. absurd (let in_keys = covers m (and_parts (has_id id (facts_at f m)) (is_among m (tree_order_of f root)) holder).0 in let it =
        ap (is_among m) e in cc);
    holds = λ m none_is. absurd cc;
    node = tt;
  }

  module _ (found : Option ℕ) (left next : List ℕ) (n : ℕ) (e : left ≡ n ∷ next) (l : Looking f root id found left) where
    apart : (m : ℕ) → n ≢ m → is_among m next ≡ false → is_among m left ≡ false
    apart m ne out = ap (is_among m) e ∙ grind (arith, nat_tests, out, ne)

    pub look-other : is_holder f root id n ≡ false → Looking f root id found next
    look-other other = record {
      only = λ m holder out. l.only m holder (apart m (λ same. absurd (let it = ap (is_holder f root id) same in cc)) out);
      holds = l.holds;
      node = l.node;
    }

    pub look-found : is_holder f root id n ≡ true → IsNode f n → is_some found ≡ false → Looking f root id (Some n) next
    look-found holder node nothing = record {
      only = λ m is out. elim (cases_eq n m) [
        | inl same ↦ ap Some same
        | inr ne ↦ absurd (let it = ap is_some (l.only m is (apart m ne out)) in cc)
      ];
      holds = λ m same. let it : n ≡ m = cc in subst (λ v. is_holder f root id v ≡ true) it holder;
      node = node;
    }

  pub look-end : (found : Option ℕ) (left : List ℕ) → left ≡ [] → Looking f root id found left → found ≡ first_with_id f root id
  look-end found left e l =
      find-only (λ m. has_id id (facts_at f m)) (tree_order_of f root) found
      (λ m has among. l.only m (rw (has, among) refl) (ap (is_among m) e))
      l.holds
