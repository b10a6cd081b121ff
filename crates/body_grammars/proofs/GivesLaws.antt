-- What was given, from what was asked of it.
use Rattle.std.proofs.Common.{◌≡◌, ℕ, Bool, true, false, cond, List, ◌∷◌, Option, Some, None, refl, ap, subst}
use Rattle.std.proofs.lemmas.Str.{IsUtf8-from_is_utf8}
use Rattle.std.specs.Prelude.{IsUtf8}
use Rattle.std.specs.Str.{is_utf8}
use Rattle.ce_base.specs.declared.entries.Entry.{Entry}
use Rattle.body_grammars.specs.Gives.{paired, then_one}

abbrev IsOne : {A : Type 0} → Option A → Option (List A) → List A → Type 0
IsOne {A} x o l = (a : A) × (rest : List A) × (x ≡ Some a) × (o ≡ Some rest) × (l ≡ a ∷ rest)

pub one_some : {A : Type 0} (x : Option A) (o : Option (List A)) (l : List A) → then_one x o ≡ Some l → IsOne x o l
one_some None o l is = absurd cc
one_some (Some a) None l is = absurd cc
one_some (Some a) (Some rest) l is = (a, rest, refl, refl, (cc))

pub utf8_some : (bytes text : List ℕ) (t : Bool) → is_utf8 bytes ≡ t → cond t (Some bytes) None ≡ Some text → (bytes ≡ text) × IsUtf8 text
utf8_some bytes text true is e = let same : bytes ≡ text = (cc) in (same, subst IsUtf8 same (IsUtf8-from_is_utf8 bytes is))
utf8_some bytes text false is e = absurd cc

pub paired_some : (n v : Option (List ℕ)) (e : Entry) → paired n v ≡ Some e → (n ≡ Some e.name) × (v ≡ Some e.value)
paired_some None v e is = absurd cc
paired_some (Some name) None e is = absurd cc
paired_some (Some name) (Some value) e is =
    let same : record { name = name; value = value } ≡ e = (cc) in
    (ap (λ (x : Entry). Some x.name) same, ap (λ (x : Entry). Some x.value) same)
