-- A part of a multipart body is read to the entry for which the relation holds.
use Rattle.std.proofs.Common.{◌≡◌, ℕ, ◌+◌, ◌-◌, Bool, true, false, ◌&&◌, cond, List, [], ◌∷◌, ◌++◌, length, drop, Option, Some, None, refl, sym, ap, subst, ◌∙◌}
use Rattle.std.proofs.Common.{append_assoc, arith, take, length-append}
use Rattle.std.proofs.lemmas.Bool.{and_parts}
use Rattle.std.proofs.lemmas.List.{take_at, drop_at, length-drop, take-append-drop}
use Rattle.std.proofs.lemmas.Str.{is_utf8-from_IsUtf8}
use Rattle.std.specs.List.{AllByRecursion}
use Rattle.std.specs.Prelude.{IsUtf8}
use Rattle.std.specs.Str.{is_utf8}
use Rattle.ce_base.specs.Texts.{HasTexts}
use Rattle.ce_base.specs.declared.entries.Entry.{Entry}
use Rattle.form_submission.specs.Encodings.{occurs}
use Rattle.body_grammars.specs.Bodies.{FitsPart, HasNo}
use Rattle.body_grammars.specs.Cuts.{behind, cut_at, only_utf8, cut_text, lacks}
use Rattle.body_grammars.specs.Gives.{paired}
use Rattle.body_grammars.specs.ReadParts.{before_name, behind_name, dashes, read_part, and_rest, before_dashes, cut_boundary, cut_dashes, cut_quote, entry_and}
use Rattle.body_grammars.specs.ReadParts.{kept_if, name_cut, name_text, part_of_name, part_of_value, value_cut}
use Rattle.body_grammars.proofs.CutLaws.{Free, cut_again, Joined, cut_joined, no_from_free, free_from_no, Before, cut_before, lacks_free, free_lacks}
use Rattle.body_grammars.proofs.FirstCuts.{TextJoined, text_joined, TextFree, text_free, cut_value}
use Rattle.body_grammars.proofs.FrontLaws.{behind_said, behind_again, HasSome, IsBound}
use Rattle.body_grammars.proofs.GivesLaws.{utf8_some, paired_some}

-- ---- a name without CR and LF

name_step : (name text : List ℕ) (t : Bool) → (lacks 13 name && lacks 10 name) ≡ t → cond t (only_utf8 name) None ≡ Some text
    → (name ≡ text) × IsUtf8 text × Free 13 name × Free 10 name
name_step name text true is e =
    let both = and_parts _ _ is in
    let same = utf8_some name text (is_utf8 name) refl e in
    (same.0, same.1, lacks_free 13 name both.0, lacks_free 10 name both.1)
name_step name text false is e = absurd cc

-- ---- the name and the value of a part

abbrev IsNamed : List ℕ → Option (List ℕ × List ℕ) → Type 0
IsNamed bytes None = Unit {0}
IsNamed bytes (Some (name, rest)) = (bytes ≡ before_name ++ (name ++ 34 ∷ rest)) × Free 34 name

named_at : (bytes more : List ℕ) (o : Option (List ℕ × List ℕ)) → bytes ≡ before_name ++ more → Joined 34 more o → Before 34 o → IsNamed bytes o
named_at bytes more None is joined free = tt
named_at bytes more (Some (name, rest)) is joined free = (is ∙ ap (λ (l : List ℕ). before_name ++ l) joined, free)

named_step : (bytes : List ℕ) (h : Option (List ℕ)) → behind before_name bytes ≡ h → IsNamed bytes (cut_quote h)
named_step bytes None is = tt
named_step bytes (Some more) is = named_at bytes more (cut_at 34 more) (behind_said before_name bytes more is) (cut_joined 34 more) (cut_before 34 more)

name_said : (bytes : List ℕ) → IsNamed bytes (name_cut bytes)
name_said bytes = named_step bytes (behind before_name bytes) refl

dashes_step : (text value : List ℕ) (h : Option (List ℕ)) → behind dashes (drop (length text - 4) text) ≡ h
    → kept_if h (take (length text - 4) text) ≡ Some value → text ≡ value ++ dashes
dashes_step text value None is e = absurd cc
dashes_step text value (Some end) is e =
    let joined = behind_said dashes (drop (length text - 4) text) end is in
    let same : take (length text - 4) text ≡ value = (cc) in
    let long : length (drop (length text - 4) text) ≡ 4 + length end = ap length joined ∙ length-append dashes end in
    let none : length end ≡ 0 = omega (arith, long, length-drop (length text - 4) text) in
    sym (take-append-drop (length text - 4) text)
    ∙ (ap (λ (l : List ℕ). take (length text - 4) text ++ l) (joined ∙ ap (λ (l : List ℕ). dashes ++ l) (empty_of end none))
    ∙ ap (λ (l : List ℕ). l ++ dashes) same)
  where
    empty_of : (l : List ℕ) → length l ≡ 0 → l ≡ []
    empty_of [] e = refl
    empty_of (x ∷ l) e = absurd (omega (arith, e))

dashes_again : (value : List ℕ) → before_dashes (value ++ dashes) ≡ Some value
dashes_again value =
    let end : length (value ++ dashes) - 4 ≡ length value = omega (arith, length-append value dashes) in
    ap (λ (n : ℕ). kept_if (behind dashes (drop n (value ++ dashes))) (take n (value ++ dashes))) end
    ∙ rw (drop_at value dashes (length value) refl, take_at value dashes (length value) refl, behind_again dashes []) refl

abbrev IsValued : List ℕ → List ℕ → Option (List ℕ × List ℕ) → Type 0
IsValued boundary bytes None = Unit {0}
IsValued boundary bytes (Some (value, rest)) = (bytes ≡ behind_name ++ (value ++ (dashes ++ (boundary ++ rest)))) × (occurs boundary value ≡ false)

valued_dashes : (boundary bytes text rest : List ℕ) (v : Option (List ℕ)) → before_dashes text ≡ v → bytes ≡ behind_name ++ (text ++ (boundary ++ rest))
    → ((value more : List ℕ) → text ≡ value ++ more → occurs boundary value ≡ false) → IsValued boundary bytes (and_rest v rest)
valued_dashes boundary bytes text rest None is joined free = tt
valued_dashes boundary bytes text rest (Some value) is joined free =
    let whole = dashes_step text value (behind dashes (drop (length text - 4) text)) refl is in (
      joined ∙ (ap (λ (l : List ℕ). behind_name ++ (l ++ (boundary ++ rest))) whole
          ∙ ap (λ (l : List ℕ). behind_name ++ l) (append_assoc value dashes (boundary ++ rest))),
      free value dashes whole,
    )

valued_at : (boundary bytes more : List ℕ) (o : Option (List ℕ × List ℕ)) → bytes ≡ behind_name ++ more → TextJoined boundary more o → TextFree boundary o
    → IsValued boundary bytes (cut_dashes o)
valued_at boundary bytes more None is joined free = tt
valued_at boundary bytes more (Some (text, rest)) is joined free =
    valued_dashes boundary bytes text rest (before_dashes text) refl (is ∙ ap (λ (l : List ℕ). behind_name ++ l) joined) free

valued_step : (boundary bytes : List ℕ) (h : Option (List ℕ)) → HasSome boundary → behind behind_name bytes ≡ h
    → IsValued boundary bytes (cut_boundary boundary h)
valued_step boundary bytes None some is = tt
valued_step boundary bytes (Some more) some is =
    valued_at boundary bytes more (cut_text boundary more) (behind_said behind_name bytes more is) (text_joined boundary more) (text_free boundary more some)

value_said : (boundary bytes : List ℕ) → HasSome boundary → IsValued boundary bytes (value_cut boundary bytes)
value_said boundary bytes some = valued_step boundary bytes (behind behind_name bytes) some refl

-- ---- a part

-- the rest of a part behind its boundary, and the next boundary
abbrev pub part_text : List ℕ → Entry → List ℕ → List ℕ
part_text boundary e rest = before_name ++ (e.name ++ 34 ∷ (behind_name ++ (e.value ++ (dashes ++ (boundary ++ rest)))))

pub record IsPart (boundary : List ℕ) (e : Entry) (rest bytes : List ℕ) : Type 0 where
  pub fits : FitsPart boundary e
  pub texts : HasTexts e
  pub joined : bytes ≡ part_text boundary e rest

and_some : (o : Option Entry) (rest rest' : List ℕ) (e : Entry) → entry_and o rest ≡ Some (e, rest') → (o ≡ Some e) × (rest ≡ rest')
and_some None rest rest' e is = absurd cc
and_some (Some f) rest rest' e is = let same : (f, rest) ≡ (e, rest') =
    (cc) in (ap (λ (x : Entry × List ℕ). Some x.0) same, ap (λ (x : Entry × List ℕ). x.1) same)

part_value : (boundary name more bytes : List ℕ) (o : Option (List ℕ × List ℕ)) (e : Entry) (rest : List ℕ) → bytes ≡ before_name ++ (name ++ 34 ∷ more)
    → Free 34 name → IsValued boundary more o → part_of_value name o ≡ Some (e, rest) → IsPart boundary e rest bytes
part_value boundary name more bytes None e rest joined free valued is = absurd cc
part_value boundary name more bytes (Some (value, rest')) e rest joined free valued is =
    let got = and_some (paired (name_text name) (only_utf8 value)) rest' rest e is in
    let both = paired_some (name_text name) (only_utf8 value) e got.0 in
    let n = name_step name e.name (lacks 13 name && lacks 10 name) refl both.0 in
    let v = utf8_some value e.value (is_utf8 value) refl both.1 in
    record {
      fits = (
        subst (HasNo 34) n.0 (no_from_free 34 name free),
        subst (HasNo 13) n.0 (no_from_free 13 name n.2),
        subst (HasNo 10) n.0 (no_from_free 10 name n.3),
        subst (λ (l : List ℕ). occurs boundary l ≡ false) v.0 valued.1,
      );
      texts = (n.1, v.1);
      joined = joined ∙ (ap (λ (l : List ℕ). before_name ++ (name ++ 34 ∷ l)) valued.0
          ∙ (ap (λ (l : List ℕ). before_name ++ (l ++ 34 ∷ (behind_name ++ (value ++ (dashes ++ (boundary ++ rest')))))) n.0
          ∙ (ap (λ (l : List ℕ). before_name ++ (e.name ++ 34 ∷ (behind_name ++ (l ++ (dashes ++ (boundary ++ rest')))))) v.0
          ∙ ap (part_text boundary e) got.1)));
    }

part_named : (boundary bytes : List ℕ) (o : Option (List ℕ × List ℕ)) (e : Entry) (rest : List ℕ) → HasSome boundary → IsNamed bytes o
    → part_of_name boundary o ≡ Some (e, rest) → IsPart boundary e rest bytes
part_named boundary bytes None e rest some named is = absurd cc
part_named boundary bytes (Some (name, more)) e rest some named is =
    part_value boundary name more bytes (value_cut boundary more) e rest named.0 named.1 (value_said boundary more some) is

pub part_said : (boundary bytes : List ℕ) (e : Entry) (rest : List ℕ) → HasSome boundary → read_part boundary bytes ≡ Some (e, rest)
    → IsPart boundary e rest bytes
unfolding read_part
part_said boundary bytes e rest some is = part_named boundary bytes (name_cut bytes) e rest some (name_said bytes) is

pub part_again : (boundary : List ℕ) (e : Entry) (rest : List ℕ) → HasSome boundary → AllByRecursion IsBound boundary → FitsPart boundary e → HasTexts e
    → read_part boundary (part_text boundary e rest) ≡ Some (e, rest)
unfolding read_part
part_again boundary e rest some are fits texts =
    let tail = behind_name ++ (e.value ++ (dashes ++ (boundary ++ rest))) in
    ap (λ (h : Option (List ℕ)). part_of_name boundary (cut_quote h)) (behind_again before_name (e.name ++ 34 ∷ tail))
    ∙ (ap (part_of_name boundary) (cut_again 34 e.name tail (free_from_no 34 e.name fits.0))
    ∙ (ap (λ (h : Option (List ℕ)). part_of_value e.name (cut_boundary boundary h)) (behind_again behind_name (e.value ++ (dashes ++ (boundary ++ rest))))
    ∙ (ap (λ (o : Option (List ℕ × List ℕ)). part_of_value e.name (cut_dashes o)) (cut_value boundary e.value rest some are fits.3)
    ∙ (ap (λ (v : Option (List ℕ)). part_of_value e.name (and_rest v rest)) (dashes_again e.value)
    ∙ rw (
      free_lacks 13 e.name (free_from_no 13 e.name fits.1),
      free_lacks 10 e.name (free_from_no 10 e.name fits.2),
      is_utf8-from_IsUtf8 e.name texts.0,
      is_utf8-from_IsUtf8 e.value texts.1,
    ) refl))))
