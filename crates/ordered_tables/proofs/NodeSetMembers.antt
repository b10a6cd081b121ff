-- Who is in a set, and who is once a node was put in.
use Rattle.std.proofs.Common.{◌≡◌, ℕ, true, ◌==◌, List, [], ◌∷◌, refl, sym, ◌∙◌, arith}
use Rattle.std.specs.Prelude.{◌||◌}
use Rattle.std.specs.List.{list_any}
use Rattle.std.specs.Ordering.{nat_cmp, is_eq}
use Rattle.std.specs.BTreeSet as sets
use Rattle.std.specs.BTreeSet.{BTreeSet}
use Rattle.std.proofs.lemmas.Bool.Decides.{nat_tests}
use Rattle.node_trees.specs.Paths.{is_among}

same-number : (n m : ℕ) → is_eq (nat_cmp n m) ≡ (m == n)
same-number n m = grind (arith, nat_tests)

pub among-any : (m : ℕ) (ks : List ℕ) → list_any (λ k. is_eq (nat_cmp m k)) ks ≡ is_among m ks
among-any m [] = refl
among-any m (k ∷ ks) = let e = same-number m k in let more = among-any m ks in grind (arith, e, more)

pub put-in : (s t : BTreeSet ℕ) (n : ℕ) → sets.Updates nat_cmp s t n true → (m : ℕ) → is_among m t.keys ≡ (is_among m s.keys || n == m)
put-in s t n u m =
    let at = u.0 m in
    let e = same-number n m in
    let turn : (m == n) ≡ (n == m) = grind (arith, nat_tests) in
    sym (among-any m t.keys) ∙ grind (arith, at, e, turn, among-any m s.keys)
