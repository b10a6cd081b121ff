-- What a definition that is put last is found by; the set of its observed names, a name at a time.
use Rattle.std.proofs.Common.{◌≡◌, ◌<◌, ◌+◌, ◌++◌, ◌∷◌, ◌&&◌, ◌==◌, ◌||◌, [], ℕ, Bool, true, false, cond, List, Option, None, Some, String, length, take}
use Rattle.std.proofs.Common.{get_or, sym, refl, ap, ◌∙◌, arith}
use Rattle.std.specs.Prelude.{IfSome, bytes_eq}
use Rattle.std.specs.BTreeMap.{BTreeMap, get, get_by_text}
use Rattle.std.specs.BTreeSet.{BTreeSet, contains_text}
use Rattle.std.specs.Cmp.{unsigned_Decides}
use Rattle.std.specs.Cmp.Lexicographic.{bytes_decides}
use Rattle.std.specs.List.{list_any, position, position_from}
use Rattle.std.specs.Map.{update}
use Rattle.std.specs.Ordering.{nat_cmp, is_eq}
use Rattle.std.proofs.lemmas.Iterator.Adapters.{position_from-zero}
use Rattle.std.proofs.lemmas.List.Folds.{list_any_more}
use Rattle.std.proofs.lemmas.List.Quantifiers.{position-Some}
use Rattle.ce_base.proofs.Places.{slice_get-append_front, slice_get-append_last}
use Rattle.ce_registry.specs.declared.definition.Definition.{Definition}
use Rattle.ce_registry.specs.Registry.{by_name, by_class, by_names}
use Rattle.ce_registry.specs.Found.{Finds, has_local, with_local}

module _ {X : Type 0} (p : X → Bool) (y : X) where
  -- Some number is not none, so the test failed
  differs : (b : Bool) (i n : ℕ) → (b ≡ true → Some i ≡ None) → Some i ≡ cond b (Some n) (Some i)
  differs true i n none = let e : Some i ≡ None = none refl in cc
  differs false i n none = refl

  added_from : (xs : List X) (i : ℕ) → (p y ≡ true → position_from p i xs ≡ None)
      → position_from p i (xs ++ y ∷ []) ≡ cond (p y) (Some (i + length xs)) (position_from p i xs)
  added_from [] i none = ap (λ n. cond (p y) (Some n) None) (omega arith)
  added_from (x ∷ xs) i none = go (p x) none (added_from xs (i + 1))
    where
      go : (is : Bool) → (p y ≡ true → cond is (Some i) (position_from p (i + 1) xs) ≡ None)
          → ((p y ≡ true → position_from p (i + 1) xs ≡ None)
          → position_from p (i + 1) (xs ++ y ∷ []) ≡ cond (p y) (Some (i + 1 + length xs)) (position_from p (i + 1) xs))
          → cond is (Some i) (position_from p (i + 1) (xs ++ y ∷ [])) ≡ cond (p y) (Some (i + length (x ∷ xs))) (cond is (Some i) (position_from p (i + 1) xs))
      go true none behind = differs (p y) i (i + length (x ∷ xs)) none
      go false none behind = behind none ∙ ap (λ n. cond (p y) (Some n) (position_from p (i + 1) xs)) (omega arith)

  -- one more comes last, and none of the others passes where it does
  added : (xs : List X) → (p y ≡ true → position p xs ≡ None) → position p (xs ++ y ∷ []) ≡ cond (p y) (Some (length xs)) (position p xs)
  added xs none = position_from-zero p (xs ++ y ∷ []) ∙ added_from xs 0 (λ e. sym (position_from-zero p xs) ∙ none e)
      ∙ ap (λ n. cond (p y) (Some n) (position_from p 0 xs)) (omega arith) ∙ ap (cond (p y) (Some (length xs))) (sym (position_from-zero p xs))

-- a place that was found is one of the list
found-within : {X : Type 0} (p : X → Bool) (xs : List X) (d : X) → IfSome (position p xs) (λ i. i < length xs)
found-within p xs d = go (position p xs) refl
  where
    go : (o : Option ℕ) → position p xs ≡ o → IfSome o (λ i. i < length xs)
    go None e = tt
    go (Some i) e = (position-Some p xs i d e).0

name-added : (ds : List Definition) (d : Definition) (name : List ℕ) → by_name ds d.name ≡ None
    → by_name (ds ++ d ∷ []) name ≡ cond (bytes_eq d.name name) (Some (length ds)) (by_name ds name)
name-added ds d name none = added (λ (e : Definition). bytes_eq e.name name) d ds (λ e. ap (by_name ds) (sym ((bytes_decides d.name name).0 e)) ∙ none)

is_eq_nat : (k q : ℕ) → is_eq (nat_cmp k q) ≡ (k == q)
is_eq_nat k q = grind arith

class-added : (ds : List Definition) (d : Definition) (class : ℕ) → by_class ds d.class ≡ None
    → by_class (ds ++ d ∷ []) class ≡ cond (d.class == class) (Some (length ds)) (by_class ds class)
class-added ds d class none = added (λ (e : Definition). e.class == class) d ds (λ e. ap (by_class ds) (sym ((unsigned_Decides d.class class).0 e)) ∙ none)

-- the set follows one more name
pub names-more : {Y : Type 0} (s n : BTreeSet (String Y)) (names : List (List ℕ)) (i : ℕ) (key q : List ℕ) → i < length names → key ≡ get_or names i key
    → contains_text n q ≡ cond (bytes_eq key q) true (contains_text s q) → contains_text s q ≡ list_any (λ m. bytes_eq m q) (take i names)
    → contains_text n q ≡ list_any (λ m. bytes_eq m q) (take (i + 1) names)
names-more s n names i key q within is sets before =
    sets ∙ ap (cond (bytes_eq key q) true) before ∙ either (bytes_eq key q) (list_any (λ m. bytes_eq m q) (take i names))
    ∙ ap (λ m. list_any (λ m. bytes_eq m q) (take i names) || bytes_eq m q) is ∙ sym (list_any_more (λ m. bytes_eq m q) names i key within)
  where
    either : (a b : Bool) → cond a true b ≡ (b || a)
    either true true = refl
    either true false = refl
    either false true = refl
    either false false = refl

-- a new definition leaves the local names of the others as they were
local-kept : (ds : List Definition) (d : Definition) (local : List ℕ) (o : Option ℕ) → IfSome o (λ i. i < length ds)
    → with_local (ds ++ d ∷ []) o local ≡ with_local ds o local
local-kept ds d local None within = refl
local-kept ds d local (Some i) within = ap (λ (e : Option Definition). cond (has_local e local) (Some i) None) (slice_get-append_front ds (d ∷ []) i within)

local-last : (ds : List Definition) (d : Definition) (local : List ℕ)
    → with_local (ds ++ d ∷ []) (Some (length ds)) local ≡ cond (bytes_eq d.local local) (Some (length ds)) None
local-last ds d local = ap (λ (e : Option Definition). cond (has_local e local) (Some (length ds)) None) (slice_get-append_last ds d)

-- the one that is found by a name stays the only one with it, where no other definition has the name of the new one
only-added : (ds : List Definition) (d : Definition) (name local : List ℕ)
    → ((other : List ℕ) → by_names ds name other ≡ with_local ds (by_name ds name) other) → by_name ds d.name ≡ None
    → by_names (ds ++ d ∷ []) name local ≡ with_local (ds ++ d ∷ []) (by_name (ds ++ d ∷ []) name) local
only-added ds d name local only none = rw (name-added ds d name none) (go (bytes_eq d.name name) refl)
  where
    go : (same : Bool) → bytes_eq d.name name ≡ same
        → by_names (ds ++ d ∷ []) name local ≡ with_local (ds ++ d ∷ []) (cond same (Some (length ds)) (by_name ds name)) local
    go true e =
        let absent = only local ∙ ap (λ o. with_local ds o local) (ap (by_name ds) (sym ((bytes_decides d.name name).0 e)) ∙ none) in
        added (λ (x : Definition). bytes_eq x.name name && bytes_eq x.local local) d ds (λ _. absent)
        ∙ rw (e, absent) refl ∙ sym (local-last ds d local)
    go false e =
        added (λ (x : Definition). bytes_eq x.name name && bytes_eq x.local local) d ds (λ t. other t)
        ∙ rw e (only local) ∙ sym (local-kept ds d local (by_name ds name) (found-within (λ (x : Definition). bytes_eq x.name name) ds d))
      where
        other : bytes_eq d.name name && bytes_eq d.local local ≡ true → by_names ds name local ≡ None
        other t = let f : false ≡ true = rw e at t in cc

-- the maps follow a new definition
pub finds-added : {Y : Type 0} (m n : BTreeMap (String Y) ℕ) (k l : BTreeMap ℕ ℕ) (ds : List Definition) (d : Definition) → Finds m k ds
    → by_name ds d.name ≡ None → by_class ds d.class ≡ None
    → ((name : List ℕ) → get_by_text n name ≡ update bytes_eq (get_by_text m) d.name (Some (length ds)) name)
    → ((class : ℕ) → get nat_cmp l class ≡ cond (is_eq (nat_cmp d.class class)) (Some (length ds)) (get nat_cmp k class)) → Finds n l (ds ++ d ∷ [])
finds-added m n k l ds d finds no_name no_class names classes = record {
  named = λ name. names name ∙ ap (cond (bytes_eq d.name name) (Some (length ds))) (finds.named name) ∙ sym (name-added ds d name no_name);
  with_class = λ class. classes class ∙ ap (λ b. cond b (Some (length ds)) (get nat_cmp k class)) (is_eq_nat d.class class)
      ∙ ap (cond (d.class == class) (Some (length ds))) (finds.with_class class) ∙ sym (class-added ds d class no_class);
  only = λ name local. only-added ds d name local (finds.only name) no_name;
}

-- what is set at the key of a class
pub set-at : (k l : BTreeMap ℕ ℕ) (key class : ℕ) (v w : Option ℕ) → key ≡ class → v ≡ w
    → ((c : ℕ) → get nat_cmp l c ≡ cond (is_eq (nat_cmp key c)) v (get nat_cmp k c)) → (c : ℕ)
    → get nat_cmp l c ≡ cond (is_eq (nat_cmp class c)) w (get nat_cmp k c)
set-at k l key class v w is same sets c =
    sets c ∙ ap (λ n. cond (is_eq (nat_cmp n c)) v (get nat_cmp k c)) is ∙ ap (λ o. cond (is_eq (nat_cmp class c)) o (get nat_cmp k c)) same
