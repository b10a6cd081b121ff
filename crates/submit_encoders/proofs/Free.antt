-- A text of one line stands in a text as it is sent if it stands in the text, and only then.
use Rattle.std.proofs.Common.{◌≡◌, ◌||◌, ◌&&◌, ℕ, Bool, true, false, not, List, [], ◌∷◌, ◌++◌, refl, sym, ap, ◌∙◌}
use Rattle.std.specs.Prelude.{nat_eq}
use Rattle.std.specs.List.{list_any, starts_with}
use Rattle.std.proofs.lemmas.Bool.{cond_both, ne_eqb, or_parts}
use Rattle.form_controls.specs.Texts.{is_newline}
use Rattle.ce_base.specs.declared.entries.Entry.{Entry}
use Rattle.form_submission.specs.Encodings.{is_broken_by, occurs}
use Rattle.form_submission.specs.LineEnds.{begins_with_line_feed, full_byte, full_from, newline, with_full_newlines}
use Rattle.submit_encoders.specs.Cuts.{has_line_end}
use Rattle.submit_encoders.proofs.Lines.{full_from-other}

-- a byte that ends no line is none that ends one
not_newline : (c b : ℕ) → is_newline c ≡ false → is_newline b ≡ true → nat_eq c b ≡ false
not_newline c b other is = ne_eqb c b (λ same. let both : true ≡ false = sym is ∙ (ap is_newline (sym same) ∙ other) in absurd (cc))

starts_not : (c b : ℕ) (text bytes : List ℕ) → is_newline c ≡ false → is_newline b ≡ true → starts_with nat_eq (b ∷ bytes) (c ∷ text) ≡ false
starts_not c b text bytes other is = rw (not_newline c b other is) refl

-- a byte is sent as a full line end, or as it stands
full_newline : (P : List ℕ → Type 0) (p : Bool) (b : ℕ) (bytes : List ℕ) → P newline → P (b ∷ []) → P (full_byte p b bytes)
full_newline P p b bytes two one =
    cond_both (nat_eq b 13 && not (begins_with_line_feed bytes)) _ _ P (λ _. two) (λ _. cond_both (nat_eq b 10 && not p) _ _ P (λ _. two) (λ _. one))

-- ---- at the front

abbrev SameStart : Bool → List ℕ → List ℕ → Type 0
SameStart p text bytes = starts_with nat_eq (full_from p bytes) text ≡ starts_with nat_eq bytes text

start_newline : (p : Bool) (c : ℕ) (text : List ℕ) (b : ℕ) (bytes : List ℕ) → is_newline c ≡ false → is_newline b ≡ true → SameStart p (c ∷ text) (b ∷ bytes)
start_newline p c text b bytes other is =
    let rest = full_from (nat_eq b 13) bytes in
    full_newline (λ first. starts_with nat_eq (first ++ rest) (c ∷ text) ≡ starts_with nat_eq (b ∷ bytes) (c ∷ text)) p b bytes
    (starts_not c 13 text (10 ∷ rest) other refl ∙ sym (starts_not c b text bytes other is))
    (starts_not c b text rest other is ∙ sym (starts_not c b text bytes other is))

start_other : (p : Bool) (c : ℕ) (text : List ℕ) (b : ℕ) (bytes : List ℕ) → is_newline b ≡ false → SameStart false text bytes
    → SameStart p (c ∷ text) (b ∷ bytes)
start_other p c text b bytes other same =
    ap (λ l. starts_with nat_eq l (c ∷ text)) (full_from-other p b bytes other) ∙ ap (λ more. nat_eq c b && more) same

starts_full : (p : Bool) (text bytes : List ℕ) → has_line_end text ≡ false → SameStart p text bytes
starts_full p [] bytes is = refl
starts_full p (c ∷ text) [] is = refl
starts_full p (c ∷ text) (b ∷ bytes) is = cases (is_newline b) refl (starts_full false text bytes parts.1)
  where
    parts : (is_newline c ≡ false) × (has_line_end text ≡ false)
    parts = or_parts (is_newline c) (has_line_end text) is

    cases : (t : Bool) → is_newline b ≡ t → SameStart false text bytes → SameStart p (c ∷ text) (b ∷ bytes)
    cases true ends same = start_newline p c text b bytes parts.0 ends
    cases false other same = start_other p c text b bytes other same

-- ---- anywhere

occurs-nothing : (bytes : List ℕ) → occurs [] bytes ≡ true
occurs-nothing [] = refl
occurs-nothing (b ∷ bytes) = refl

abbrev SamePlaces : Bool → List ℕ → List ℕ → Type 0
SamePlaces p text bytes = occurs text (full_from p bytes) ≡ occurs text bytes

occurs_newline : (p : Bool) (c : ℕ) (text : List ℕ) (b : ℕ) (bytes : List ℕ) → is_newline c ≡ false → is_newline b ≡ true
    → SamePlaces (nat_eq b 13) (c ∷ text) bytes → SamePlaces p (c ∷ text) (b ∷ bytes)
occurs_newline p c text b bytes other is same =
    let rest = full_from (nat_eq b 13) bytes in
    let here : occurs (c ∷ text) (b ∷ bytes) ≡ occurs (c ∷ text) bytes = ap (λ t. t || occurs (c ∷ text) bytes) (starts_not c b text bytes other is) in
    let return_and_feed : occurs (c ∷ text) (13 ∷ 10 ∷ rest) ≡ occurs (c ∷ text) rest =
    ap (λ t. t || occurs (c ∷ text) (10 ∷ rest)) (starts_not c 13 text (10 ∷ rest) other refl)
    ∙ ap (λ t. t || occurs (c ∷ text) rest) (starts_not c 10 text rest other refl) in
    full_newline (λ first. occurs (c ∷ text) (first ++ rest) ≡ occurs (c ∷ text) (b ∷ bytes)) p b bytes
    (return_and_feed ∙ (same ∙ sym here))
    (ap (λ t. t || occurs (c ∷ text) rest) (starts_not c b text rest other is) ∙ (same ∙ sym here))

occurs_other : (p : Bool) (text : List ℕ) (b : ℕ) (bytes : List ℕ) → has_line_end text ≡ false → is_newline b ≡ false → SamePlaces false text bytes
    → SamePlaces p text (b ∷ bytes)
occurs_other p text b bytes is other same =
    let start = ap (λ l. starts_with nat_eq l text) (sym (full_from-other p b bytes other)) ∙ starts_full p text (b ∷ bytes) is in
    ap (occurs text) (full_from-other p b bytes other)
    ∙ (ap (λ t. t || occurs text (full_from false bytes)) start ∙ ap (λ t. starts_with nat_eq (b ∷ bytes) text || t) same)

occurs_full : (p : Bool) (text bytes : List ℕ) → has_line_end text ≡ false → SamePlaces p text bytes
occurs_full p [] bytes is = occurs-nothing (full_from p bytes) ∙ sym (occurs-nothing bytes)
occurs_full p (c ∷ text) [] is = refl
occurs_full p (c ∷ text) (b ∷ bytes) is = cases (is_newline b) refl (λ q. occurs_full q (c ∷ text) bytes is)
  where
    cases : (t : Bool) → is_newline b ≡ t → ((q : Bool) → SamePlaces q (c ∷ text) bytes) → SamePlaces p (c ∷ text) (b ∷ bytes)
    cases true ends same = occurs_newline p c text b bytes (or_parts (is_newline c) (has_line_end text) is).0 ends (same (nat_eq b 13))
    cases false other same = occurs_other p (c ∷ text) b bytes is other (same false)

pub occurs-with_full_newlines : (text bytes : List ℕ) → has_line_end text ≡ false → occurs text (with_full_newlines bytes) ≡ occurs text bytes
occurs-with_full_newlines text bytes is = occurs_full false text bytes is

-- ---- in no value

pub no_value_holds : (entries : List Entry) (boundary : List ℕ) → has_line_end boundary ≡ false → is_broken_by entries boundary ≡ false
    → list_any (λ (e : Entry). occurs boundary (with_full_newlines e.value)) entries ≡ false
no_value_holds [] boundary is free = refl
no_value_holds (e ∷ entries) boundary is free =
    let parts = or_parts (occurs boundary e.name || occurs boundary e.value) (is_broken_by entries boundary) free in
    let value = (or_parts (occurs boundary e.name) (occurs boundary e.value) parts.0).1 in
    rw (occurs-with_full_newlines boundary e.value is, value) (no_value_holds entries boundary is parts.1)
