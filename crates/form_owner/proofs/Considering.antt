-- Nodes that are put into a set.
use Rattle.std.proofs.Common.{◌≡◌, ℕ, ◌+◌, ◌≤◌, ◌==◌, length, Bool, true, false, List, [], ◌∷◌, ◌++◌, take, get_or, Some, refl, sym, ap, ◌∙◌, subst, arith, inl}
use Rattle.std.proofs.Common.{inr}
use Rattle.std.specs.Prelude.{not, ◌&&◌, ◌||◌, nat_le, nat_lt, slice_get}
use Rattle.std.specs.List.{list_any}
use Rattle.std.proofs.lemmas.Bool.{cases_eq}
use Rattle.std.proofs.lemmas.Bool.Decides.{nat_tests}
use Rattle.std.proofs.lemmas.List.{take_more, take_all}
use Rattle.std.proofs.lemmas.List.Folds.{list_any-append}
use Rattle.std.proofs.lemmas.Option.{get_or_from_slice_get, slice_get_within}
use Rattle.node_trees.specs.Trees.{Trees}
use Rattle.node_trees.specs.Nodes.{IsNode, size}
use Rattle.node_trees.specs.Paths.{is_among}
use Rattle.tree_laws.proofs.Members.{all-members}
use Rattle.form_owner.specs.Candidates.{Considers}
use Rattle.form_owner.proofs.Nodes.{all-among}

-- one more behind a list
any-last : {X : Type 0} (p : X → Bool) (xs : List X) (x : X) → list_any p (xs ++ x ∷ []) ≡ (list_any p xs || p x)
any-last p xs x = list_any-append p xs (x ∷ []) ∙ grind arith

any-more : {X : Type 0} (p : X → Bool) (xs : List X) (i : ℕ) (x : X) → slice_get xs i ≡ Some x → list_any p (take (i + 1) xs) ≡ (list_any p (take i xs) || p x)
any-more p xs i x at =
    let read : get_or xs i x ≡ x = get_or_from_slice_get xs i x x at in
    ap (list_any p) (take_more xs i x (slice_get_within xs i x at) ∙ ap (λ y. take i xs ++ y ∷ []) read)
    ∙ any-last p (take i xs) x

among-any : (n : ℕ) (xs : List ℕ) → is_among n xs ≡ list_any (λ m. m == n) xs
among-any n [] = refl
among-any n (x ∷ xs) = ap (λ b. x == n || b) (among-any n xs)

-- n is one of a list, and was gone through where these are left of it
abbrev pub is_passed : List ℕ → List ℕ → ℕ → Bool
is_passed xs left n = is_among n xs && not (is_among n left)

module _ {forest : Trees} {about : ℕ → Bool} where
  -- none is put in
  pub nothing : (test : ℕ → Bool) (set : List ℕ) → ((n : ℕ) → about n ≡ true → test n ≡ false) → Considers forest about test set set
  nothing test set fails = record {
    nodes = λ all. all;
    kept = λ n among. among;
    found = λ n node is passes. absurd (let it = fails n is in cc);
  }

  -- one is
  pub one : (n : ℕ) (old new : List ℕ) → IsNode forest n → ((m : ℕ) → is_among m new ≡ (is_among m old || n == m))
      → Considers forest about (λ m. n == m) old new
  one n old new node put = record {
    nodes = λ all. all-members (IsNode forest) new (λ m among. elim (cases_eq n m) [
      | inl same ↦ subst (IsNode forest) same node
      | inr other ↦ all-among (IsNode forest) old all m (let it = put m in grind (arith, nat_tests, it, among, other))
    ]);
    kept = λ m among. let it = put m in grind (arith, it, among);
    found = λ m is passes is_it. let it = put m in grind (arith, it, is_it);
  }

  module _ {one two : ℕ → Bool} {old mid new : List ℕ} where
    -- those of two tests
    pub both : Considers forest about one old mid → Considers forest about two mid new → Considers forest about (λ n. one n || two n) old new
    both first second = record {
      nodes = λ all. second.nodes (first.nodes all);
      kept = λ n among. second.kept n (first.kept n among);
      found = λ n node is passes. by_test n node is (one n) refl passes;
    }
      where
        by_test : (n : ℕ) → IsNode forest n → about n ≡ true → (b : Bool) → one n ≡ b → (b || two n) ≡ true → is_among n new ≡ true
        by_test n node is true e passes = second.kept n (first.found n node is e)
        by_test n node is false e passes = second.found n node is passes

  -- those of a test that fewer pass
  pub less : {test other : ℕ → Bool} {old new : List ℕ} → ((n : ℕ) → other n ≡ true → test n ≡ true) → Considers forest about test old new
      → Considers forest about other old new
  less fewer all = record {
    nodes = all.nodes;
    kept = all.kept;
    found = λ n node is passes. all.found n node is (fewer n passes);
  }

  -- into a set of none
  pub from_none : {test : ℕ → Bool} {old new : List ℕ} → old ≡ [] → Considers forest about test old new → Considers forest about test [] new
  from_none {test} {old} {new} empty all = subst (λ ns. Considers forest about test ns new) empty all

  -- along a list
  pub next : {X : Type 0} (by : X → ℕ → Bool) (xs : List X) (i : ℕ) (x : X) {old mid new : List ℕ} → slice_get xs i ≡ Some x
      → Considers forest about (λ n. list_any (λ j. by j n) (take i xs)) old mid → Considers forest about (by x) mid new →
      Considers forest about (λ n. list_any (λ j. by j n) (take (i + 1) xs)) old new
  next by xs i x at so_far more = less (λ n passes. sym (any-more (λ j. by j n) xs i x at) ∙ passes) (both so_far more)

  pub next-among : (xs : List ℕ) (i x : ℕ) {old mid new : List ℕ} → slice_get xs i ≡ Some x → Considers forest about (λ n. is_among n (take i xs)) old mid
      → Considers forest about (λ n. x == n) mid new →
      Considers forest about (λ n. is_among n (take (i + 1) xs)) old new
  next-among xs i x at so_far more =
      less (λ n passes. sym (among-any n (take (i + 1) xs)) ∙ passes)
      (next (λ j n. j == n) xs i x at (less (λ n passes. among-any n (take i xs) ∙ passes) so_far) more)

  -- behind a list
  pub one-more : {X : Type 0} (by : X → ℕ → Bool) (xs : List X) (x : X) {old mid new : List ℕ}
      → Considers forest about (λ n. list_any (λ j. by j n) xs) old mid → Considers forest about (by x) mid new
      → Considers forest about (λ n. list_any (λ j. by j n) (xs ++ x ∷ [])) old new
  one-more by xs x so_far more = less (λ n passes. sym (any-last (λ j. by j n) xs x) ∙ passes) (both so_far more)

  -- to its end
  pub whole : {X : Type 0} (by : X → ℕ → Bool) (xs : List X) (i : ℕ) {old new : List ℕ} → length xs ≤ i
      → Considers forest about (λ n. list_any (λ j. by j n) (take i xs)) old new → Considers forest about (λ n. list_any (λ j. by j n) xs) old new
  whole by xs i long all = less (λ n passes. ap (list_any (λ j. by j n)) (take_all i xs long) ∙ passes) all

  pub whole-among : (xs : List ℕ) (i : ℕ) {old new : List ℕ} → length xs ≤ i → Considers forest about (λ n. is_among n (take i xs)) old new
      → Considers forest about (λ n. is_among n xs) old new
  whole-among xs i long all = less (λ n passes. ap (is_among n) (take_all i xs long) ∙ passes) all

  -- along what is left of a set

  module _ (xs : List ℕ) where
    pub all-passed : (test : ℕ → Bool) (left : List ℕ) {old new : List ℕ} → left ≡ [] → ((n : ℕ) → test n ≡ true → is_among n xs ≡ true)
        → Considers forest about (is_passed xs left) old new → Considers forest about test old new
    all-passed test left none within all =
        less (λ n passes. let in_xs = within n passes in let out : is_among n left ≡ false = ap (is_among n) none in grind (arith, in_xs, out)) all

-- by number, as far as n

abbrev pub is_up_to : ℕ → ℕ → Bool
is_up_to n m = nat_lt 0 m && nat_le m n

module _ {forest : Trees} {about : ℕ → Bool} where
  pub far-start : (set : List ℕ) → Considers forest about (is_up_to 0) set set
  far-start set = nothing (is_up_to 0) set (λ m is. grind (arith, nat_tests))

  pub far-on : (n : ℕ) {old mid new : List ℕ} → Considers forest about (is_up_to n) old mid → Considers forest about (λ m. n + 1 == m) mid new
      → Considers forest about (is_up_to (n + 1)) old new
  far-on n so_far more = less (λ m passes. grind (arith, nat_tests, passes)) (both so_far more)

  pub far-all : (n : ℕ) {old new : List ℕ} → n ≡ size forest → Considers forest about (is_up_to n) old new → Considers forest about (λ m. true) old new
  far-all n whole all = record {
    nodes = all.nodes;
    kept = all.kept;
    found = λ m node is passes. all.found m node is (let low = node.low in let high = node.high in grind (arith, nat_tests, low, high, whole));
  }
