-- Classes are found by their names, and the map of names follows them.
use Rattle.std.proofs.Common.{◌≡◌, ◌<◌, ◌+◌, ◌++◌, ◌∷◌, [], ℕ, Bool, true, false, cond, List, Option, None, Some, String, length, sym, refl, ap, ◌∙◌, arith}
use Rattle.std.specs.Prelude.{IfSome, bytes_eq}
use Rattle.std.specs.BTreeMap.{BTreeMap, get_by_text}
use Rattle.std.specs.Cmp.Lexicographic.{bytes_decides}
use Rattle.std.specs.Map.{update}
use Rattle.std.specs.List.{position_from}
use Rattle.std.proofs.lemmas.Iterator.Adapters.{position_from-zero}
use Rattle.std.proofs.lemmas.List.Quantifiers.{position-Some}
use Rattle.ce_algorithms.specs.State.{Class, class_named, new_class}
use Rattle.class_table.specs.Classes.{Finds}

-- a class that is found is one of them
pub named-within : (ks : List Class) (name : List ℕ) → IfSome (class_named ks name) (λ i. i < length ks)
named-within ks name = go (class_named ks name) refl
  where
    go : (o : Option ℕ) → class_named ks name ≡ o → IfSome o (λ i. i < length ks)
    go None e = tt
    go (Some i) e = (position-Some (λ (k : Class). bytes_eq k.name name) ks i (new_class []) e).0

-- the number of the class with this name, where the first one has the number i
abbrev named_from : List ℕ → ℕ → List Class → Option ℕ
named_from name i ks = position_from (λ (k : Class). bytes_eq k.name name) i ks

abbrev found_at : Bool → ℕ → Option ℕ → Option ℕ
found_at is i behind = cond is (Some i) behind

named_from-other : (ks : List Class) (k : Class) (name : List ℕ) (i : ℕ) → bytes_eq k.name name ≡ false
    → named_from name i (ks ++ k ∷ []) ≡ named_from name i ks
named_from-other [] k name i e = rw e refl
named_from-other (x ∷ ks) k name i e = ap (found_at (bytes_eq x.name name) i) (named_from-other ks k name (i + 1) e)

named_from-last : (ks : List Class) (k : Class) (name : List ℕ) (i : ℕ) → named_from name i ks ≡ None → bytes_eq k.name name ≡ true
    → named_from name i (ks ++ k ∷ []) ≡ Some (i + length ks)
named_from-last [] k name i none e = rw e (ap Some (omega arith))
named_from-last (x ∷ ks) k name i none e = go (bytes_eq x.name name) none (λ n. named_from-last ks k name (i + 1) n e)
  where
    go : (is : Bool) → found_at is i (named_from name (i + 1) ks) ≡ None
        → (named_from name (i + 1) ks ≡ None → named_from name (i + 1) (ks ++ k ∷ []) ≡ Some (i + 1 + length ks))
        → found_at is i (named_from name (i + 1) (ks ++ k ∷ [])) ≡ Some (i + length (x ∷ ks))
    go true n behind = cc
    go false n behind = behind n ∙ ap Some (omega arith)

named_is : (ks : List Class) (name : List ℕ) → class_named ks name ≡ named_from name 0 ks
named_is ks name = position_from-zero (λ (k : Class). bytes_eq k.name name) ks

-- a new class behind the others is found by its name, and the others as before
named_push : (ks : List Class) (k : Class) (name : List ℕ) → class_named ks k.name ≡ None
    → class_named (ks ++ k ∷ []) name ≡ update bytes_eq (class_named ks) k.name (Some (length ks)) name
named_push ks k name none = go (bytes_eq k.name name) refl
  where
    go : (same : Bool) → bytes_eq k.name name ≡ same → class_named (ks ++ k ∷ []) name ≡ cond same (Some (length ks)) (class_named ks name)
    go true e = named_is (ks ++ k ∷ []) name
        ∙ named_from-last ks k name 0 (sym (named_is ks name) ∙ ap (class_named ks) (sym ((bytes_decides k.name name).0 e)) ∙ none) e ∙ ap Some (omega arith)
    go false e = named_is (ks ++ k ∷ []) name ∙ named_from-other ks k name 0 e ∙ sym (named_is ks name)

-- the map follows a new class
pub finds-added : {Y : Type 0} (m n : BTreeMap (String Y) ℕ) (ks : List Class) (k : Class) → Finds m ks → class_named ks k.name ≡ None
    → ((name : List ℕ) → get_by_text n name ≡ update bytes_eq (get_by_text m) k.name (Some (length ks)) name) → Finds n (ks ++ k ∷ [])
finds-added m n ks k finds none sets name = sets name ∙ ap (cond (bytes_eq k.name name) (Some (length ks))) (finds name) ∙ sym (named_push ks k name none)
