-- Where a boundary occurs first.
use Rattle.std.proofs.Common.{◌≡◌, ℕ, Bool, true, false, ◌&&◌, List, [], ◌∷◌, ◌++◌, length, drop, Option, Some, None, refl, sym, ap, ◌∙◌, append_assoc, arith}
use Rattle.std.proofs.lemmas.Bool.{ne_eqb, or_parts}
use Rattle.std.specs.List.{AllByRecursion, starts_with}
use Rattle.std.specs.Prelude.{nat_eq}
use Rattle.form_submission.specs.Encodings.{occurs}
use Rattle.body_grammars.specs.Cuts.{behind, onto, cut_text, cut_here}
use Rattle.body_grammars.specs.ReadParts.{dashes}
use Rattle.body_grammars.proofs.FrontLaws.{starts_said, behind_said, behind_again, behind_not, HasSome, IsBound}

-- ---- the first occurrence

abbrev pub TextJoined : List ℕ → List ℕ → Option (List ℕ × List ℕ) → Type 0
TextJoined text bytes None = Unit {0}
TextJoined text bytes (Some (before, rest)) = bytes ≡ before ++ (text ++ rest)

joined_here : (text : List ℕ) (b : ℕ) (bytes : List ℕ) (h : Option (List ℕ)) (o : Option (List ℕ × List ℕ)) → behind text (b ∷ bytes) ≡ h
    → TextJoined text bytes o → TextJoined text (b ∷ bytes) (cut_here h (onto (b ∷ []) o))
joined_here text b bytes (Some rest) o is joined = behind_said text (b ∷ bytes) rest is
joined_here text b bytes None None is joined = tt
joined_here text b bytes None (Some (before, rest)) is joined = ap (λ (l : List ℕ). b ∷ l) joined

pub text_joined : (text bytes : List ℕ) → TextJoined text bytes (cut_text text bytes)
unfolding cut_text
text_joined text [] = tt
text_joined text (b ∷ bytes) = joined_here text b bytes (behind text (b ∷ bytes)) (cut_text text bytes) refl (text_joined text bytes)

-- nothing before the cut has the text in it
abbrev pub TextFree : List ℕ → Option (List ℕ × List ℕ) → Type 0
TextFree text None = Unit {0}
TextFree text (Some (before, rest)) = (value more : List ℕ) → before ≡ value ++ more → occurs text value ≡ false

none_in_none : (text : List ℕ) → HasSome text → occurs text [] ≡ false
none_in_none [] is = absurd (omega arith)
none_in_none (c ∷ text) is = ne_eqb (length (c ∷ text)) 0 (λ e. omega (arith, e))

no_some : (text bytes rest : List ℕ) → behind text bytes ≡ None → bytes ≡ text ++ rest → ⊥
no_some text bytes rest none joined = let both : Some rest ≡ None = sym (behind_again text rest) ∙ (ap (behind text) (sym joined) ∙ none) in absurd cc

starts_none : (text bytes value more : List ℕ) (t : Bool) → starts_with nat_eq value text ≡ t → behind text bytes ≡ None → bytes ≡ value ++ more → t ≡ false
starts_none text bytes value more true is none joined =
    absurd (no_some text bytes (drop (length text) value ++ more) none
    (joined ∙ (ap (λ (l : List ℕ). l ++ more) (starts_said text value is) ∙ append_assoc text (drop (length text) value) more)))
starts_none text bytes value more false is none joined = refl

free_later : (text : List ℕ) (b : ℕ) (bytes before rest : List ℕ) → HasSome text → behind text (b ∷ bytes) ≡ None → bytes ≡ before ++ (text ++ rest)
    → ((value more : List ℕ) → before ≡ value ++ more → occurs text value ≡ false) → (value more : List ℕ) → b ∷ before ≡ value ++ more
    → occurs text value ≡ false
free_later text b bytes before rest some none joined free [] more is = none_in_none text some
free_later text b bytes before rest some none joined free (v ∷ value) more is =
    let tail : before ≡ value ++ more = (cc) in
    let whole : b ∷ bytes ≡ (v ∷ value) ++ (more ++ (text ++ rest)) =
    ap (λ (l : List ℕ). b ∷ l) joined ∙ (ap (λ (l : List ℕ). l ++ (text ++ rest)) is ∙ append_assoc (v ∷ value) more (text ++ rest)) in
    rw (starts_none text (b ∷ bytes) (v ∷ value) (more ++ (text ++ rest)) (starts_with nat_eq (v ∷ value) text) refl none whole, free value more tail) refl

nil_front : (value more : List ℕ) → [] ≡ value ++ more → value ≡ []
nil_front [] more is = refl
nil_front (v ∷ value) more is = absurd cc

free_here : (text : List ℕ) (b : ℕ) (bytes : List ℕ) (h : Option (List ℕ)) (o : Option (List ℕ × List ℕ)) → HasSome text → behind text (b ∷ bytes) ≡ h
    → TextJoined text bytes o → TextFree text o → TextFree text (cut_here h (onto (b ∷ []) o))
free_here text b bytes (Some rest) o some is joined free = λ value more e. ap (occurs text) (nil_front value more e) ∙ none_in_none text some
free_here text b bytes None None some is joined free = tt
free_here text b bytes None (Some (before, rest)) some is joined free = free_later text b bytes before rest some is joined free

pub text_free : (text bytes : List ℕ) → HasSome text → TextFree text (cut_text text bytes)
unfolding cut_text
text_free text [] some = tt
text_free text (b ∷ bytes) some =
    free_here text b bytes (behind text (b ∷ bytes)) (cut_text text bytes) some refl (text_joined text bytes) (text_free text bytes some)

-- ---- cut again

prefix_same : (text xs rest : List ℕ) → AllByRecursion IsBound text → starts_with nat_eq (xs ++ 13 ∷ rest) text ≡ starts_with nat_eq xs text
prefix_same [] xs rest are = refl
prefix_same (c ∷ text) [] rest are = rw are.0.cr refl
prefix_same (c ∷ text) (x ∷ xs) rest are = ap (λ (t : Bool). nat_eq c x && t) (prefix_same text xs rest are.1)

miss : (c b : ℕ) (text bytes : List ℕ) → nat_eq c b ≡ false → behind (c ∷ text) (b ∷ bytes) ≡ None
miss c b text bytes differ = behind_not (c ∷ text) (b ∷ bytes) (rw differ refl)

cut_dash : (text rest : List ℕ) → HasSome text → AllByRecursion IsBound text → cut_text text (dashes ++ (text ++ rest)) ≡ Some (dashes, rest)
unfolding cut_text
cut_dash [] rest some are = absurd (omega arith)
cut_dash (c ∷ text) rest some are =
    rw (
      miss c 13 text (10 ∷ 45 ∷ 45 ∷ ((c ∷ text) ++ rest)) are.0.cr,
      miss c 10 text (45 ∷ 45 ∷ ((c ∷ text) ++ rest)) are.0.lf,
      miss c 45 text (45 ∷ ((c ∷ text) ++ rest)) are.0.dash,
      miss c 45 text ((c ∷ text) ++ rest) are.0.dash,
      behind_again (c ∷ text) rest,
    ) refl

pub cut_value : (text value rest : List ℕ) → HasSome text → AllByRecursion IsBound text → occurs text value ≡ false
    → cut_text text (value ++ (dashes ++ (text ++ rest))) ≡ Some (value ++ dashes, rest)
unfolding cut_text
cut_value text [] rest some are free = cut_dash text rest some are
cut_value text (v ∷ value) rest some are free =
    let both = or_parts _ _ free in
    let none = behind_not text (v ∷ (value ++ (dashes ++ (text ++ rest)))) (prefix_same text (v ∷ value) (10 ∷ 45 ∷ 45 ∷ (text ++ rest)) are ∙ both.0) in
    rw (none, cut_value text value rest some are both.1) refl
