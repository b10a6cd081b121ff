-- A list of attributes at the place of a name, and its names.
use Rattle.std.proofs.Common.{◌≡◌, ℕ, zero, suc, ◌<◌, ◌≤◌, ◌+◌, List, [], ◌∷◌, ◌++◌, Option, Some, None, true, false, cond, refl, ap, sym, ◌∙◌, arith, length}
use Rattle.std.proofs.Common.{take, drop, add-one, get_or}
use Rattle.std.specs.Prelude.{Result, Ok, Err, OnOk, OnErr, bytes_eq, is_none}
use Rattle.ce_base.specs.declared.memory.NoMemory.{NoMemory}
use Rattle.std.proofs.Math.ListN.{set}
use Rattle.std.proofs.lemmas.List.{take_more}
use Rattle.std.proofs.lemmas.Bool.Decides.{nat_tests}
use Rattle.node_trees.specs.Facts.{value_in, with_value, without_value}
use Rattle.ce_base.proofs.SameTexts.{bytes_sym, same_text, text_same}
use Rattle.ordered_tables.proofs.TextMapPlaces.{with_value-new}
use Rattle.node_arena.specs.Attributes.{name_place, is_once}

is_nothing : (o : Option (List ℕ)) → is_none o ≡ true → o ≡ None
is_nothing None e = refl
is_nothing (Some v) e = absurd cc

-- ---- at the place of a name

value_in-place : (name : List ℕ) (xs : List (List ℕ × List ℕ)) (d : List ℕ × List ℕ) → name_place name xs < length xs
    → value_in xs name ≡ Some (get_or xs (name_place name xs) d).1
value_in-place name [] d lt = absurd (omega arith)
value_in-place name (x ∷ xs) d lt = grind (arith, nat_tests, value_in-place name xs d, add-one (name_place name xs))

pub value_in-absent : (name : List ℕ) (xs : List (List ℕ × List ℕ)) → length xs ≤ name_place name xs → value_in xs name ≡ None
value_in-absent name [] le = refl
value_in-absent name (x ∷ xs) le = grind (arith, nat_tests, value_in-absent name xs)

with_value-place : (name value : List ℕ) (xs : List (List ℕ × List ℕ)) (d : List ℕ × List ℕ) → name_place name xs < length xs
    → set xs (name_place name xs) ((get_or xs (name_place name xs) d).0, value) ≡ with_value name value xs
with_value-place name value [] d lt = absurd (omega arith)
with_value-place name value (x ∷ xs) d lt =
    let same = same_text x.0 name in
    grind (arith, nat_tests, same, with_value-place name value xs d, add-one (name_place name xs))

pub with_value-absent : (name value : List ℕ) (xs : List (List ℕ × List ℕ)) → length xs ≤ name_place name xs
    → xs ++ (name, value) ∷ [] ≡ with_value name value xs
with_value-absent name value [] le = refl
with_value-absent name value (x ∷ xs) le = grind (arith, nat_tests, with_value-absent name value xs)

without_value-place : (name : List ℕ) (xs : List (List ℕ × List ℕ)) → name_place name xs < length xs
    → take (name_place name xs) xs ++ drop (suc (name_place name xs)) xs ≡ without_value name xs
without_value-place name [] lt = absurd (omega arith)
without_value-place name (x ∷ xs) lt = grind (arith, nat_tests, without_value-place name xs, add-one (name_place name xs))

pub without_value-absent : (name : List ℕ) (xs : List (List ℕ × List ℕ)) → length xs ≤ name_place name xs → xs ≡ without_value name xs
without_value-absent name [] le = refl
without_value-absent name (x ∷ xs) le = grind (arith, nat_tests, without_value-absent name xs)

-- the same at an index, for the item that is read there
module _ (name : List ℕ) (xs : List (List ℕ × List ℕ)) (i : ℕ) (at : i ≡ name_place name xs) where
  pub value_there : (d : List ℕ × List ℕ) → i < length xs → d ≡ get_or xs i d → Some d.1 ≡ value_in xs name
  value_there d lt is =
      let it = value_in-place name xs d (omega arith) in
      let same : d ≡ get_or xs (name_place name xs) d = rw at at is in
      ap (λ v. Some v.1) same ∙ sym it

  pub set_there : (value new : List ℕ) (d : List ℕ × List ℕ) → i < length xs → d ≡ get_or xs i d → new ≡ value → set xs i (d.0, new) ≡ with_value name value xs
  set_there value new d lt is e =
      let it = with_value-place name value xs d (omega arith) in
      let same : d ≡ get_or xs (name_place name xs) d = rw at at is in
      rw (at, e) (ap (λ v. set xs (name_place name xs) (v.0, value)) same ∙ it)

  pub without_there : i < length xs → take i xs ++ drop (suc i) xs ≡ without_value name xs
  without_there lt = ap (λ k. take k xs ++ drop (suc k) xs) at ∙ without_value-place name xs (omega arith)

-- ---- names that stand once

pub value_in-with : (name value q : List ℕ) (xs : List (List ℕ × List ℕ))
    → value_in (with_value name value xs) q ≡ cond (bytes_eq name q) (Some value) (value_in xs q)
value_in-with name value q [] = refl
value_in-with name value q (x ∷ xs) = grind (arith, same_text x.0 name, same_text x.0 q, same_text name q, text_same x.0 name, value_in-with name value q xs)

value_in-without : (name q : List ℕ) (xs : List (List ℕ × List ℕ)) → is_once xs ≡ true
    → value_in (without_value name xs) q ≡ cond (bytes_eq name q) None (value_in xs q)
value_in-without name q [] once = grind arith
value_in-without name q (x ∷ xs) once =
    grind (
      arith,
      is_nothing (value_in xs x.0),
      same_text x.0 name,
      same_text name q,
      same_text x.0 q,
      text_same x.0 name,
      text_same name q,
      text_same x.0 q,
      value_in-without name q xs,
    )

once_with : (name value : List ℕ) (xs : List (List ℕ × List ℕ)) → is_once xs ≡ true → is_once (with_value name value xs) ≡ true
once_with name value [] once = refl
once_with name value (x ∷ xs) once = grind (arith, same_text x.0 name, bytes_sym x.0 name, value_in-with name value x.0 xs, once_with name value xs)

pub once_without : (name : List ℕ) (xs : List (List ℕ × List ℕ)) → is_once xs ≡ true → is_once (without_value name xs) ≡ true
once_without name [] once = refl
once_without name (x ∷ xs) once = grind (arith, is_nothing (value_in xs x.0), value_in-without name x.0 xs, once_without name xs)

-- so it is after a value was set, and where memory was refused and nothing was set
pub once_set : (r : Result (Option (List ℕ)) NoMemory) (name value : List ℕ) (old new : List (List ℕ × List ℕ)) → OnOk r (new ≡ with_value name value old)
    → OnErr r (new ≡ old) → is_once old ≡ true → is_once new ≡ true
once_set (Ok was) name value old new ok err once = ap is_once ok ∙ once_with name value old once
once_set (Err e) name value old new ok err once = ap is_once err ∙ once

-- what stood once and was taken away is gone
pub value_in-gone : (name : List ℕ) (xs : List (List ℕ × List ℕ)) → is_once xs ≡ true → value_in (without_value name xs) name ≡ None
value_in-gone name xs once = value_in-without name name xs once ∙ ap (λ b. cond b None (value_in xs name)) (text_same name name refl)

-- what is set behind names that are all others comes last

absent_at : (name : List ℕ) (xs : List (List ℕ × List ℕ)) (i : ℕ) (d : List ℕ × List ℕ) → value_in xs name ≡ None → i < length xs
    → bytes_eq (get_or xs i d).0 name ≡ false
absent_at name [] i d none lt = absurd (omega arith)
absent_at name (x ∷ xs) zero d none lt = grind arith
absent_at name (x ∷ xs) (suc i) d none lt = grind (arith, absent_at name xs i d)

once_next : (xs : List (List ℕ × List ℕ)) (i : ℕ) (d : List ℕ × List ℕ) → is_once xs ≡ true → i < length xs → value_in (take i xs) (get_or xs i d).0 ≡ None
once_next [] i d once lt = absurd (omega arith)
once_next (x ∷ xs) zero d once lt = refl
once_next (x ∷ xs) (suc i) d once lt = grind (arith, is_nothing (value_in xs x.0), absent_at x.0 xs i d, bytes_sym x.0 (get_or xs i d).0, once_next xs i d)

pub with_value-next : (xs : List (List ℕ × List ℕ)) (i : ℕ) (d : List ℕ × List ℕ) → is_once xs ≡ true → i < length xs → d ≡ get_or xs i d
    → with_value d.0 d.1 (take i xs) ≡ take (i + 1) xs
with_value-next xs i d once lt is =
    let none : value_in (take i xs) d.0 ≡ None = ap (λ (a : List ℕ × List ℕ). value_in (take i xs) a.0) is ∙ once_next xs i d once lt in
    sym (with_value-new (take i xs) d.0 d.1 none) ∙ ap (λ (a : List ℕ × List ℕ). take i xs ++ a ∷ []) is ∙ sym (take_more xs i d lt)
