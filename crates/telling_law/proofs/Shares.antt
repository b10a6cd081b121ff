-- What a list of changes gives to one node, where some are given at the turns of a walk and the others after it: what all of them give.
use Rattle.std.proofs.Common.{◌≡◌, ℕ, ◌==◌, Bool, true, false, if◌then◌else◌, not, List, [], ◌∷◌, ◌++◌, map, filter, flat_map, refl, ap, ◌∙◌, arith, inl, inr}
use Rattle.std.proofs.Common.{append-nil}
use Rattle.std.specs.List.{AllByRecursion}
use Rattle.std.proofs.lemmas.Bool.Decides.{nat_tests}
use Rattle.std.proofs.lemmas.Bool.{cases_eq}
use Rattle.node_trees.specs.Paths.{is_among}
use Rattle.tree_laws.proofs.Counts.{AreApart, count-absent}
use Rattle.reaction_queue.specs.declared.reaction.Reaction.{Reaction}
use Rattle.form_controls.specs.declared.change.Change.{Change}

flat_map-same : {A B : Type 0} (f g : A → List B) → ((x : A) → f x ≡ g x) → (xs : List A) → flat_map f xs ≡ flat_map g xs
flat_map-same f g same [] = refl
flat_map-same f g same (x ∷ xs) = ap (λ ys. ys ++ flat_map f xs) (same x) ∙ ap (λ ys. g x ++ ys) (flat_map-same f g same xs)

pub all-filter : {A : Type 0} (P : A → Type 0) (test : A → Bool) (xs : List A) → AllByRecursion P xs → AllByRecursion P (filter test xs)
all-filter P test [] all = all
all-filter P test (x ∷ xs) all = by_test (test x) (all-filter P test xs all.1)
  where
    by_test : (b : Bool) → AllByRecursion P (filter test xs) → AllByRecursion P (if b then x ∷ filter test xs else filter test xs)
    by_test true rest = (all.0, rest)
    by_test false rest = rest

module _ (give : Change → List Reaction) (j : ℕ) where
  abbrev pub to_node : Change → List Reaction
  to_node c = if c.node == j then give c else []

  abbrev pub all_to : List Change → List Reaction
  all_to cs = flat_map to_node cs

  -- those of the node n
  abbrev pub at_turn : List Change → ℕ → List Reaction
  at_turn cs n = all_to (filter (λ (c : Change). c.node == n) cs)

  -- those of no node of the walk
  abbrev pub to_others : List Change → List ℕ → List Reaction
  to_others cs walk = all_to (filter (λ (c : Change). not (is_among c.node walk)) cs)

  -- what is given once, where numbers that are apart are gone through
  once : (given : List Reaction) (ns : List ℕ) → AreApart ns → flat_map (λ n. if n == j then given else []) ns ≡ (if is_among j ns then given else [])
  once given [] apart = refl
  once given (n ∷ ns) apart =
      let one = apart j in
      let rest = once given ns (λ i. omega (arith, apart i)) in
      elim (cases_eq n j) [
        | inl e ↦
            let out : is_among j ns ≡ false = count-absent j ns (grind (arith, nat_tests)) in
            grind (arith, nat_tests, append-nil given)
        | inr ne ↦ grind (arith, nat_tests)
      ]

  -- at its turn the node is given all its changes, and none at another
  turn-gives : (n : ℕ) (cs : List Change) → at_turn cs n ≡ (if n == j then all_to cs else [])
  turn-gives n [] = grind (arith, nat_tests)
  turn-gives n (c ∷ cs) = let rest = turn-gives n cs in grind (arith, nat_tests)

  others-give : (walk : List ℕ) (cs : List Change) → to_others cs walk ≡ (if is_among j walk then [] else all_to cs)
  others-give walk [] = grind (arith, nat_tests)
  others-give walk (c ∷ cs) =
      let rest = others-give walk cs in
      elim (cases_eq c.node j) [
        | inl e ↦ let same : is_among c.node walk ≡ is_among j walk = ap (λ m. is_among m walk) e in grind (arith, nat_tests)
        | inr ne ↦ grind (arith, nat_tests)
      ]

  pub shares : (cs : List Change) (walk : List ℕ) → AreApart walk → flat_map (at_turn cs) walk ++ to_others cs walk ≡ all_to cs
  shares cs walk apart =
      ap (λ xs. xs ++ to_others cs walk) (flat_map-same (at_turn cs) (λ n. if n == j then all_to cs else []) (λ n. turn-gives n cs) walk
      ∙ once (all_to cs) walk apart)
      ∙ ap (λ xs. (if is_among j walk then all_to cs else []) ++ xs) (others-give walk cs)
      ∙ by_test (is_among j walk) (all_to cs)
    where
      by_test : (b : Bool) (xs : List Reaction) → (if b then xs else []) ++ (if b then [] else xs) ≡ xs
      by_test true xs = append-nil xs
      by_test false xs = refl

  -- a change for each number that differs, where none is given for one that does not
  module _ (change : ℕ → Change) (differs : ℕ → Bool) (node_is : (n : ℕ) → (change n).node ≡ n) (none : (n : ℕ) → differs n ≡ false
      → give (change n) ≡ []) where
    each-gives : (ns : List ℕ) → all_to (map change (filter differs ns)) ≡ flat_map (λ n. if n == j then give (change j) else []) ns
    each-gives [] = refl
    each-gives (n ∷ ns) =
        let rest = each-gives ns in
        let node = node_is n in
        let nothing = none n in
        elim (cases_eq n j) [
          | inl e ↦ let same : give (change n) ≡ give (change j) = ap (λ m. give (change m)) e in grind (arith, nat_tests)
          | inr ne ↦ grind (arith, nat_tests)
        ]

    pub changes-give : (ns : List ℕ) → AreApart ns → is_among j ns ≡ true → all_to (map change (filter differs ns)) ≡ give (change j)
    changes-give ns apart among = each-gives ns ∙ once (give (change j)) ns apart ∙ ap (λ b. if b then give (change j) else []) among
