-- How variables are found.
use Rattle.std.proofs.Common.{◌≡◌, ◌<◌, ◌≤◌, ℕ, Bool, true, false, cond, Option, None, Some, String, List, [], ◌∷◌, ◌++◌, length, get_or, refl, sym, ap, subst}
use Rattle.std.proofs.Common.{◌∙◌, arith, not, string_bytes, length-append}
use Rattle.std.proofs.Math.ListN.{set}
use Rattle.std.proofs.lemmas.Bool.Decides.{nat_tests}
use Rattle.std.proofs.lemmas.List.{length-set}
use Rattle.std.proofs.lemmas.List.Folds.{find_at, position_or_len-set, position_or_len_push}
use Rattle.std.proofs.lemmas.List.Quantifiers.{position-Some}
use Rattle.std.proofs.lemmas.Option.{slice_get-get_or, slice_get_past}
use Rattle.std.proofs.lemmas.List.Sums.{prefix_len-le-length}
use Rattle.std.specs.Prelude.{IfSome, bytes_eq, slice_get, option_map}
use Rattle.std.specs.List.{position, position_or_len}
use Rattle.std.specs.BTreeMap.{BTreeMap, get_by_text, is_at}
use Rattle.std.specs.Map.{lookup}
use Rattle.std.specs.Ordering.{nat_cmp}
use Rattle.std.specs.Cmp.Lexicographic.{bytes_decides, slice_cmp}
use Rattle.ce_algorithms.specs.State.{value_of}
use Rattle.session_state.specs.Variables.{ArePositive, Finds, highest, place}
use Rattle.session_state.proofs.VariableLaws.{value_of-made}

abbrev is_named : List ℕ → (List ℕ × ℕ) → Bool
is_named name b = bytes_eq b.0 name

-- a place that was found is one of the list
pub place-within : (vs : List (List ℕ × ℕ)) (name : List ℕ) → IfSome (place name vs) (λ i. i < length vs)
place-within vs name = go (place name vs) refl
  where
    go : (o : Option ℕ) → place name vs ≡ o → IfSome o (λ i. i < length vs)
    go None e = tt
    go (Some i) e = (position-Some (is_named name) vs i ([], 0) e).0

at_place : (p : (List ℕ × ℕ) → Bool) (vs : List (List ℕ × ℕ)) (i : ℕ) → position p vs ≡ Some i → (position_or_len p vs ≡ i) × (i < length vs)
at_place p vs i e = grind (arith, nat_tests)

past_end : (p : (List ℕ × ℕ) → Bool) (vs : List (List ℕ × ℕ)) → position p vs ≡ None → length vs ≤ position_or_len p vs
past_end p vs e = grind (arith, nat_tests)

-- what a variable holds stands at its place
pub value-there : (vs : List (List ℕ × ℕ)) (name : List ℕ) (i : ℕ) (d : List ℕ × ℕ) → place name vs ≡ Some i → value_of vs name ≡ Some (get_or vs i d).1
value-there vs name i d e =
    let at = at_place (is_named name) vs i e in
    ap (option_map (λ (b : List ℕ × ℕ). b.1)) (find_at (is_named name) vs ∙ ap (slice_get vs) at.0 ∙ slice_get-get_or vs i d at.1)

pub value-absent : (vs : List (List ℕ × ℕ)) (name : List ℕ) → place name vs ≡ None → value_of vs name ≡ None
value-absent vs name e = ap (option_map (λ (b : List ℕ × ℕ). b.1))
    (find_at (is_named name) vs ∙ slice_get_past vs (position_or_len (is_named name) vs) (past_end (is_named name) vs e))

-- a variable that is set again keeps its place, and each other
pub finds-set : {Y : Type 0} (m : BTreeMap (String Y) ℕ) (vs : List (List ℕ × ℕ)) (name : List ℕ) (i n : ℕ) → Finds m vs → place name vs ≡ Some i
    → Finds m (set vs i (name, n))
finds-set m vs name i n finds e q =
    let d : List ℕ × ℕ = (name, n) in
    let same : (get_or vs i d).0 ≡ name = (bytes_decides (get_or vs i d).0 name).0 (position-Some (is_named name) vs i d e).1 in
    let stays = position_or_len-set (is_named q) vs i (name, n) d (ap (λ l. bytes_eq l q) (sym same)) in
    finds q ∙ rw (stays, length-set vs i (name, n)) refl

-- what stands at the place of a variable is positive, and no more than the highest number
pub made-there : (vs : List (List ℕ × ℕ)) (name : List ℕ) (i : ℕ) (d : List ℕ × ℕ) → ArePositive vs → place name vs ≡ Some i
    → (0 < (get_or vs i d).1) × ((get_or vs i d).1 ≤ highest vs)
made-there vs name i d are e =
    let P : Option ℕ → Type 0 = λ o. IfSome o (λ n. (0 < n) × (n ≤ highest vs)) in
    subst P (value-there vs name i d e) (value_of-made vs name are)

-- the map is as it was
pub finds-kept : {Y : Type 0} (m n : BTreeMap (String Y) ℕ) (vs : List (List ℕ × ℕ)) → Finds m vs → n.entries ≡ m.entries → Finds n vs
finds-kept m n vs finds same q = ap (lookup (is_at (λ t. slice_cmp nat_cmp q (string_bytes t)))) same ∙ finds q

-- a new variable behind the others is found by its name, and the others as before
pub finds-added : {Y : Type 0} (m n : BTreeMap (String Y) ℕ) (vs : List (List ℕ × ℕ)) (name : List ℕ) (v : ℕ) → Finds m vs → place name vs ≡ None
    → ((q : List ℕ) → get_by_text n q ≡ cond (bytes_eq name q) (Some (length vs)) (get_by_text m q)) → Finds n (vs ++ (name, v) ∷ [])
finds-added m n vs name v finds none sets q = sets q ∙ ap (cond (bytes_eq name q) (Some (length vs))) (finds q) ∙ go (bytes_eq name q) refl
  where
    go : (same : Bool) → bytes_eq name q ≡ same → cond same (Some (length vs)) (place q vs) ≡ place q (vs ++ (name, v) ∷ [])
    go true e =
        let is : name ≡ q = (bytes_decides name q).0 e in
        let push = position_or_len_push (is_named q) vs (name, v) in
        let past = past_end (is_named q) vs (ap (λ n. place n vs) (sym is) ∙ none) in
        let le = prefix_len-le-length (λ x. not (is_named q x)) vs in
        grind (arith, nat_tests, push, past, le, e, length-append vs ((name, v) ∷ []))
    go false e =
        let push = position_or_len_push (is_named q) vs (name, v) in
        let le = prefix_len-le-length (λ x. not (is_named q x)) vs in
        grind (arith, nat_tests, push, le, e, length-append vs ((name, v) ∷ []))
