-- Where a text stands in another.
use Rattle.std.proofs.Common.{◌≡◌, ◌↔◌, ◌||◌, ℕ, Bool, true, false, List, [], ◌∷◌, ◌++◌, length, refl, sym, ap, ◌∙◌, subst, arith}
use Rattle.std.specs.Prelude.{nat_eq}
use Rattle.std.specs.Cmp.Derive.{one_truth}
use Rattle.std.specs.List.{starts_with}
use Rattle.std.specs.Str.Iter.{HasSubslice}
use Rattle.std.proofs.lemmas.Bool.{and_parts, eqb-true, eq-eqb, or_right}
use Rattle.form_submission.specs.Encodings.{occurs}

-- ---- at the front

pub begins_from : (text bytes : List ℕ) → starts_with nat_eq bytes text ≡ true → (rest : List ℕ) × (bytes ≡ text ++ rest)
begins_from [] bytes is = (bytes, refl)
begins_from (c ∷ text) [] is = absurd (cc)
begins_from (c ∷ text) (b ∷ bytes) is =
    let parts = and_parts (nat_eq c b) (starts_with nat_eq bytes text) is in
    let more = begins_from text bytes parts.1 in
    (more.0, ap (λ x. x ∷ bytes) (sym (eqb-true c b parts.0)) ∙ ap (λ l. c ∷ l) more.1)

pub begins_with : (text rest : List ℕ) → starts_with nat_eq (text ++ rest) text ≡ true
begins_with [] rest = refl
begins_with (c ∷ text) rest = rw (eq-eqb c c refl, begins_with text rest) refl

occurs_at_front : (text bytes : List ℕ) → starts_with nat_eq bytes text ≡ true → occurs text bytes ≡ true
occurs_at_front [] [] is = refl
occurs_at_front (c ∷ text) [] is = absurd (cc)
occurs_at_front text (b ∷ bytes) is = rw is refl

-- ---- anywhere

pub occurs_within : (front text rest : List ℕ) → occurs text (front ++ (text ++ rest)) ≡ true
occurs_within [] text rest = occurs_at_front text (text ++ rest) (begins_with text rest)
occurs_within (b ∷ front) text rest =
    or_right (starts_with nat_eq (b ∷ front ++ (text ++ rest)) text) (occurs text (front ++ (text ++ rest))) (occurs_within front text rest)

found_first : (c : ℕ) (text : List ℕ) (b : ℕ) (bytes : List ℕ) → (occurs (c ∷ text) bytes ≡ true → HasSubslice bytes (c ∷ text)) → (first : Bool)
    → starts_with nat_eq (b ∷ bytes) (c ∷ text) ≡ first → (first || occurs (c ∷ text) bytes) ≡ true → HasSubslice (b ∷ bytes) (c ∷ text)
found_first c text b bytes later true first is = let rest = begins_from (c ∷ text) (b ∷ bytes) first in ([], rest.0, rest.1)
found_first c text b bytes later false first is = let at = later is in (b ∷ at.0, at.1, ap (λ l. b ∷ l) at.2)

found : (text bytes : List ℕ) → occurs text bytes ≡ true → HasSubslice bytes text
found [] bytes is = ([], bytes, refl)
found (c ∷ text) [] is = absurd (omega (arith, eqb-true (length (c ∷ text)) 0 is))
found (c ∷ text) (b ∷ bytes) is = found_first c text b bytes (found (c ∷ text) bytes) (starts_with nat_eq (b ∷ bytes) (c ∷ text)) refl is

-- a search that is true where the text stands, and only there
pub occurs_by_search : (search_result : Bool) (text bytes : List ℕ) → (search_result ≡ true) ↔ HasSubslice bytes text → search_result ≡ occurs text bytes
occurs_by_search r text bytes told =
    one_truth r (occurs text bytes)
    (λ yes. let at = told.0 yes in subst (λ l. occurs text l ≡ true) (sym at.2) (occurs_within at.0 text at.1))
    (λ yes. told.1 (found text bytes yes))
