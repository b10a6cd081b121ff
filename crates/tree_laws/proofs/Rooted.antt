-- The root of a node's tree is a node.
use Rattle.std.proofs.Common.{◌≡◌, ℕ, ◌<◌, ◌⊎◌, true, not, List, [], ◌∷◌, ◌++◌, Option, Some, None, refl, sym, ap, ◌∙◌, arith, inl}
use Rattle.std.proofs.Common.{inr}
use Rattle.std.specs.Prelude.{find, reverse}
use Rattle.std.proofs.lemmas.Bool.{cases_eq, or_cases}
use Rattle.std.proofs.lemmas.List.{reverse-append}
use Rattle.std.proofs.lemmas.Bool.Decides.{nat_tests}
use Rattle.std.specs.Prelude.{unwrap_or}
use Rattle.node_trees.specs.Trees.{Trees, none, tree}
use Rattle.node_trees.specs.Nodes.{times, IsNode, IsTidy}
use Rattle.node_trees.specs.Paths.{path, under, is_among, root_at, has_parent}
use Rattle.node_trees.proofs.Absent.{is_among-append}
use Rattle.tree_laws.proofs.Members.{among-found}

-- what is on a path stands in the trees

among-under : (k m : ℕ) (xs : List ℕ) → is_among k (under m xs) ≡ true → (m ≡ k) ⊎ (is_among k xs ≡ true)
among-under k m [] h = absurd cc
among-under k m (x ∷ xs) h = elim (cases_eq m k) [
  | inl e ↦ inl e
  | inr ne ↦ inr (grind (arith, nat_tests))
]

pub path-inside : (k n : ℕ) (f : Trees) → is_among k (path n f) ≡ true → 0 < times k f
path-inside k n none h = absurd cc
path-inside k n (tree m x s c r) h =
    let in_s = path-inside k n s in
    let in_c = path-inside k n c in
    let in_r = path-inside k n r in
    elim (cases_eq m n) [
      | inl e ↦
          let is : path n (tree m x s c r) ≡ m ∷ [] = grind (arith, nat_tests) in
          let here : is_among k (m ∷ []) ≡ true = rw is at h in
          grind (arith, nat_tests)
      | inr ne ↦
          let is : path n (tree m x s c r) ≡ under m (path n s ++ path n c) ++ path n r = grind (arith, nat_tests) in
          let all : is_among k (under m (path n s ++ path n c) ++ path n r) ≡ true = rw is at h in
          elim (or_cases (is_among k (under m (path n s ++ path n c))) (is_among k (path n r))
          (sym (is_among-append k (under m (path n s ++ path n c)) (path n r)) ∙ all)) [
            | inl u ↦ elim (among-under k m (path n s ++ path n c) u) [
              | inl e ↦ grind (arith, nat_tests)
              | inr v ↦ elim (or_cases (is_among k (path n s)) (is_among k (path n c)) (sym (is_among-append k (path n s) (path n c)) ∙ v)) [
                | inl a ↦ let low = in_s a in omega arith
                | inr b ↦ let low = in_c b in omega arith
              ]
            ]
            | inr v ↦ let low = in_r v in omega arith
          ]
    ]

-- the root is on the path

among-reverse : (k : ℕ) (xs : List ℕ) → is_among k (reverse xs) ≡ true → is_among k xs ≡ true
among-reverse k [] h = absurd cc
among-reverse k (x ∷ xs) h =
    let is : reverse (x ∷ xs) ≡ reverse xs ++ x ∷ [] = reverse-append (x ∷ []) xs in
    elim (or_cases (is_among k (reverse xs)) (is_among k (x ∷ [])) (sym (is_among-append k (reverse xs) (x ∷ [])) ∙ ap (is_among k) (sym is) ∙ h)) [
      | inl a ↦ let more = among-reverse k xs a in grind (arith, nat_tests)
      | inr b ↦ grind (arith, nat_tests)
    ]

pub root_is_node : (f : Trees) (n : ℕ) → IsTidy f → IsNode f n → IsNode f (root_at f n)
root_is_node f n tidy node = by_found (find (λ m. not (has_parent f m)) (reverse (path n f))) refl
  where
    by_found : (o : Option ℕ) → find (λ m. not (has_parent f m)) (reverse (path n f)) ≡ o → IsNode f (unwrap_or o n)
    by_found None e = node
    by_found (Some k) e = tidy.only k (path-inside k n f (among-reverse k (path n f) (among-found (λ m. not (has_parent f m)) (reverse (path n f)) k e)))
