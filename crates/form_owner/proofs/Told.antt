-- What is said of which node.
use Rattle.std.proofs.Common.{◌≡◌, ◌≢◌, ℕ, ltb, zero, suc, ◌+◌, ◌<◌, ◌≤◌, ◌==◌, true, false, cond, List, [], ◌∷◌, map, get_or, length, refl, ap, subst, ◌∙◌}
use Rattle.std.proofs.Common.{arith}
use Rattle.std.specs.Prelude.{filter, slice_get}
use Rattle.std.specs.List.Sorted.{IsNonDecreasingBy, IsPartitionedBy, IsPartitionPoint}
use Rattle.std.proofs.lemmas.List.Sorted.{IsPartitionedBy-ltb}
use Rattle.std.proofs.lemmas.Bool.Decides.{nat_tests}
use Rattle.std.proofs.lemmas.List.Elements.{All-map, All-filter}
use Rattle.node_trees.specs.Nodes.{IsNode}
use Rattle.form_controls.specs.declared.change.Change.{Change}
use Rattle.form_controls.specs.Owners.{Forms}
use Rattle.form_controls.specs.Changes.{form_changes, form_change, differs, numbers}
use Rattle.form_controls.proofs.Differ.{changes_increase}
use Rattle.form_owner.specs.Told.{AreOfNodes, AreRising, if_of, is_of}
use Rattle.form_owner.proofs.Nodes.{numbers-nodes}

pub changes-of_nodes : (before now : Forms) → AreOfNodes now.forest (form_changes before now)
changes-of_nodes before now = record {
  rising = changes_increase before now;
  nodes = All-map (λ (c : Change). IsNode now.forest c.node) (form_change before now) (filter (differs before now) (numbers now.forest))
      (All-filter (differs before now) (IsNode now.forest) (numbers now.forest) (numbers-nodes now.forest));
}

-- a node's change

none_of : (n : ℕ) (cs : List Change) → ((k : ℕ) (d : Change) → k < length cs → (get_or cs k d).node ≢ n) → filter (is_of n) cs ≡ []
none_of n [] other = refl
none_of n (c ∷ cs) other =
    let here : (c.node == n) ≡ false = let apart = other 0 c (omega arith) in grind (arith, nat_tests) in
    ap (λ b. cond b (c ∷ filter (is_of n) cs) (filter (is_of n) cs)) here ∙ none_of n cs (λ k d lt. other (suc k) d (omega (arith, lt)))

-- each is said of a node behind that of the one before

pub behind : (c : Change) (cs : List Change) → AreRising (c ∷ cs) → AreRising cs
behind c cs rising k lt =
    let more : suc k + 1 ≡ suc (k + 1) = omega arith in
    subst (λ i. get_or (map (λ (x : Change). x.node) cs) k 0 < get_or (c.node ∷ map (λ (x : Change). x.node) cs) i 0) more (rising (suc k) (omega (arith, lt)))

pub rises : (c : Change) (cs : List Change) → AreRising (c ∷ cs) → (k : ℕ) (d : Change) → k < length cs → c.node < (get_or cs k d).node
rises c [] rising k d lt = absurd (omega (arith, lt))
rises c (e ∷ cs) rising zero d lt = rising 0 (omega arith)
rises c (e ∷ cs) rising (suc k) d lt =
    let first : c.node < e.node = rising 0 (omega arith) in
    let later : e.node < (get_or cs k d).node = rises e cs (behind c (e ∷ cs) rising) k d (omega (arith, lt)) in
    omega (arith, first, later)

-- it stands where those of nodes below n end
pub found : (n i : ℕ) (cs : List Change) → AreRising cs → ((k : ℕ) (d : Change) → k < i → k < length cs → (get_or cs k d).node < n)
    → ((k : ℕ) (d : Change) → i ≤ k → k < length cs → n ≤ (get_or cs k d).node)
    → filter (is_of n) cs ≡ if_of n (slice_get cs i)
found n i [] rising low high = refl
found n zero (c ∷ cs) rising low high =
    let least : n ≤ c.node = high 0 c (omega arith) (omega arith) in
    ap (λ v. cond (c.node == n) (c ∷ v) v) (none_of n cs (λ k d lt same. let later = rises c cs rising k d lt in absurd (omega (arith, least, later, same))))
found n (suc i) (c ∷ cs) rising low high =
    let less : c.node < n = low 0 c (omega arith) (omega arith) in
    let other : (c.node == n) ≡ false = grind (arith, nat_tests) in
    ap (λ b. cond b (c ∷ filter (is_of n) cs) (filter (is_of n) cs)) other
    ∙ found n i cs (behind c cs rising) (λ k d lt within. low (suc k) d (omega (arith, lt)) (omega (arith, within)))
    (λ k d le within. high (suc k) d (omega (arith, le)) (omega (arith, within)))

never_falls : (cs : List Change) → AreRising cs → IsNonDecreasingBy (λ (c : Change). c.node) cs
never_falls [] rising i j d le lt = absurd (omega (arith, lt))
never_falls (c ∷ cs) rising zero zero d le lt = omega arith
never_falls (c ∷ cs) rising zero (suc j) d le lt = let less = rises c cs rising j d (omega (arith, lt)) in omega (arith, less)
never_falls (c ∷ cs) rising (suc i) zero d le lt = absurd (omega (arith, le))
never_falls (c ∷ cs) rising (suc i) (suc j) d le lt = never_falls cs (behind c cs rising) i j d (omega (arith, le)) (omega (arith, lt))

pub parted : (n : ℕ) (cs : List Change) → AreRising cs → IsPartitionedBy (λ (c : Change). ltb c.node n) cs
parted n cs rising = IsPartitionedBy-ltb (λ (c : Change). c.node) cs n (never_falls cs rising)

pub found_at : (n i : ℕ) (cs : List Change) → AreRising cs → IsPartitionPoint (λ (c : Change). ltb c.node n ≡ true) (λ (c : Change). ltb c.node n ≡ false) cs i
    → filter (is_of n) cs ≡ if_of n (slice_get cs i)
found_at n i cs rising point =
    found n i cs rising
    (λ k d lt within. let h = point.0 k d (omega arith) lt in grind (arith, nat_tests))
    (λ k d le within. let h = point.1 k d le within in grind (arith, nat_tests))
