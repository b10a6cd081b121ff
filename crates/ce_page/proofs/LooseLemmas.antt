-- A node that was taken out of where it stood.
use Rattle.std.proofs.Common.{◌≡◌, ◌≢◌, ℕ, ◌==◌, if◌then◌else◌, Option, Some, None, sym, subst, inl, inr, arith}
use Rattle.std.proofs.lemmas.Bool.{cases_eq}
use Rattle.std.proofs.lemmas.Bool.Decides.{nat_tests}
use Rattle.node_trees.specs.Trees.{Trees}
use Rattle.node_trees.specs.Spots.{parent_at, next_sibling_at}
use Rattle.node_trees.specs.Insertion.{may_insert}
use Rattle.node_trees.specs.Nodes.{IsNode}
use Rattle.ce_algorithms.specs.Mutation.{reference_child}
use Rattle.ce_page.specs.Loose.{IsLoosed}

here : (m n : ℕ) (a b : Option ℕ) → m ≡ n → (if m == n then a else b) ≡ a
here m n a b e = grind (arith, nat_tests)

elsewhere : (m n : ℕ) (a b : Option ℕ) → m ≢ n → (if m == n then a else b) ≡ b
elsewhere m n a b ne = grind (arith, nat_tests)

-- it was removed
pub loosed : (old new : Trees) (n : ℕ) → parent_at new n ≡ None
    → ((p : ℕ) (b : Option ℕ) → may_insert old p n b ≡ None → b ≢ Some n → may_insert new p n b ≡ None)
    → ((p : ℕ) → IsNode old p → may_insert old p n (Some n) ≡ None → may_insert new p n (next_sibling_at old n) ≡ None)
    → IsLoosed old new n
loosed old new n free may in_place = record { free = free; may = allowed }
  where
    allowed : (p : ℕ) (b : Option ℕ) → IsNode old p → may_insert old p n b ≡ None → may_insert new p n (reference_child old n b) ≡ None
    allowed p None node h = may p None h (λ e. cc)
    allowed p (Some m) node h = elim (cases_eq m n) [
      | inl e ↦
          let before : reference_child old n (Some m) ≡ next_sibling_at old n = here m n (next_sibling_at old n) (Some m) e in
          subst (λ b. may_insert new p n b ≡ None) (sym before) (in_place p node (subst (λ k. may_insert old p n (Some k) ≡ None) e h))
      | inr ne ↦
          let before : reference_child old n (Some m) ≡ Some m = elsewhere m n (next_sibling_at old n) (Some m) ne in
          subst (λ b. may_insert new p n b ≡ None) (sym before) (may p (Some m) h (λ e. ne cc))
    ]

-- it had no parent before
