-- A multipart body is read to the list for which the relation holds, and no other.
use Rattle.std.proofs.Common.{◌≡◌, ◌<◌, ◌≤◌, ℕ, ◌+◌, zero, suc, Bool, true, false, ◌&&◌, cond, List, [], ◌∷◌, ◌++◌, length, drop, Option, Some, None, Result}
use Rattle.std.proofs.Common.{Ok, Err, refl, sym, ap, subst, ◌∙◌, append_assoc, append-nil, arith, codes}
use Rattle.std.proofs.lemmas.Bool.{and_parts, ltb-true}
use Rattle.std.proofs.lemmas.List.Elements.{All-from_recursion, recursion_from_All}
use Rattle.std.proofs.lemmas.Str.{IsUtf8-append, IsUtf8-nil}
use Rattle.std.specs.List.{AllByRecursion}
use Rattle.std.specs.Prelude.{nat_lt, IsUtf8, flat_map}
use Rattle.ce_base.specs.Texts.{HasTexts}
use Rattle.ce_base.specs.declared.entries.Entry.{Entry}
use Rattle.ce_base.proofs.Utf8.{IsUtf8-ascii}
use Rattle.form_submission.specs.LineEnds.{newline}
use Rattle.body_grammars.specs.Bodies.{FitsPart, part, PartText, IsBoundary}
use Rattle.body_grammars.specs.Cuts.{behind}
use Rattle.body_grammars.specs.Gives.{Gives}
use Rattle.body_grammars.specs.ReadParts.{before_name, behind_dashes, behind_name, closing, dashes, is_end, multipart_entries, read_part, read_tail}
use Rattle.body_grammars.specs.ReadParts.{tail_behind, then_parts}
use Rattle.body_grammars.specs.Reads.{Reads}
use Rattle.body_grammars.specs.declared.refused.BodyRefused.{BodyRefused}
use Rattle.body_grammars.specs.declared.refused.BodyRefused.TheVariants.{NotABody, NoMemory}
use Rattle.body_grammars.proofs.FrontLaws.{behind_said, behind_again, behind_not, HasSome, IsBound, boundary_bounds, boundary_some}
use Rattle.body_grammars.proofs.GivesLaws.{one_some}
use Rattle.body_grammars.proofs.PartCuts.{tail_opens, no_tail}
use Rattle.body_grammars.proofs.PartLaws.{part_text, IsPart, part_said, part_again}
use Rattle.body_grammars.proofs.TextLaws.{utf8_around}

-- ---- all parts

-- what stands behind the first boundary
abbrev pub tail_text : List ℕ → List Entry → List ℕ
tail_text boundary [] = closing
tail_text boundary (e ∷ list) = part_text boundary e (tail_text boundary list)

record AreParts (boundary : List ℕ) (list : List Entry) (bytes : List ℕ) : Type 0 where
  pub fit : AllByRecursion (FitsPart boundary) list
  pub texts : AllByRecursion HasTexts list
  pub joined : bytes ≡ tail_text boundary list

end_said : (bytes : List ℕ) (o : Option (List ℕ)) → behind closing bytes ≡ o → is_end o ≡ true → bytes ≡ closing
end_said bytes None is e = absurd cc
end_said bytes (Some (b ∷ rest)) is e = absurd cc
end_said bytes (Some []) is e = behind_said closing bytes [] is ∙ append-nil closing

end_parts : (boundary bytes : List ℕ) (list : List Entry) → bytes ≡ closing → Some [] ≡ Some list → AreParts boundary list bytes
end_parts boundary bytes list is e = let same : [] ≡ list =
    (cc) in subst (λ (l : List Entry). AreParts boundary l bytes) same (record { fit = tt; texts = tt; joined = is })

one_part : (boundary bytes : List ℕ) (e : Entry) (rest : List ℕ) (list : List Entry) → IsPart boundary e rest bytes → AreParts boundary list rest
    → AreParts boundary (e ∷ list) bytes
one_part boundary bytes e rest list one more =
    record { fit = (one.fits, more.fit); texts = (one.texts, more.texts); joined = one.joined ∙ ap (part_text boundary e) more.joined }

then_said : (n : ℕ) (boundary bytes : List ℕ) (o : Option (Entry × List ℕ)) (list : List Entry) → HasSome boundary → read_part boundary bytes ≡ o
    → ((rest : List ℕ) (more : List Entry) → read_tail n boundary rest ≡ Some more → AreParts boundary more rest)
    → then_parts o (read_tail n boundary) ≡ Some list → AreParts boundary list bytes
then_said n boundary bytes None list some is others e = absurd cc
then_said n boundary bytes (Some (f, rest)) list some is others e =
    let (g, more, is_g, is_more, joined) = one_some (Some f) (read_tail n boundary rest) list e in
    let same : f ≡ g = (cc) in
    subst (λ (l : List Entry). AreParts boundary l bytes) (ap (λ (x : Entry). x ∷ more) same ∙ sym joined)
    (one_part boundary bytes f rest more (part_said boundary bytes f rest some is) (others rest more is_more))

tail_step : (n : ℕ) (boundary bytes : List ℕ) (t : Bool) (list : List Entry) → HasSome boundary → is_end (behind closing bytes) ≡ t
    → ((rest : List ℕ) (more : List Entry) → read_tail n boundary rest ≡ Some more → AreParts boundary more rest)
    → cond t (Some []) (then_parts (read_part boundary bytes) (read_tail n boundary)) ≡ Some list → AreParts boundary list bytes
tail_step n boundary bytes true list some is others e = end_parts boundary bytes list (end_said bytes (behind closing bytes) refl is) e
tail_step n boundary bytes false list some is others e = then_said n boundary bytes (read_part boundary bytes) list some refl others e

tail_said : (n : ℕ) (boundary : List ℕ) → HasSome boundary → (bytes : List ℕ) (list : List Entry) → read_tail n boundary bytes ≡ Some list
    → AreParts boundary list bytes
tail_said zero boundary some bytes list e = let both : None ≡ Some list = sym (no_tail boundary bytes) ∙ e in absurd cc
tail_said (suc n) boundary some bytes list e =
    tail_step n boundary bytes (is_end (behind closing bytes)) list some refl (tail_said n boundary some) (sym (tail_opens n boundary bytes) ∙ e)

not_end : (bytes : List ℕ) → behind closing (13 ∷ bytes) ≡ None
not_end bytes = behind_not closing (13 ∷ bytes) refl

tail_again : (n : ℕ) (boundary : List ℕ) (list : List Entry) → HasSome boundary → AllByRecursion IsBound boundary → AllByRecursion (FitsPart boundary) list
    → AllByRecursion HasTexts list → length list < n → read_tail n boundary (tail_text boundary list) ≡ Some list
tail_again zero boundary list some are fit texts small = absurd (omega arith)
tail_again (suc n) boundary [] some are fit texts small =
    tail_opens n boundary closing ∙ ap (λ (o : Option (List ℕ)). cond (is_end o) (Some []) (then_parts (read_part boundary closing) (read_tail n boundary)))
    (behind_again closing [])
tail_again (suc n) boundary (e ∷ list) some are fit texts small =
    let bytes = part_text boundary e (tail_text boundary list) in
    tail_opens n boundary bytes
    ∙ (ap (λ (o : Option (List ℕ)). cond (is_end o) (Some []) (then_parts (read_part boundary bytes) (read_tail n boundary))) (not_end (drop 1 bytes))
    ∙ rw (part_again boundary e (tail_text boundary list) some are fit.0 texts.0, tail_again n boundary list some are fit.1 texts.1 (omega arith)) refl)

longer : (xs ys : List ℕ) → length ys ≤ length (xs ++ ys)
longer [] ys = omega arith
longer (x ∷ xs) ys = let more = longer xs ys in omega (arith, more)

part_longer : (boundary : List ℕ) (e : Entry) (rest : List ℕ) → length rest < length (part_text boundary e rest)
part_longer boundary e rest =
    let b = longer boundary rest in
    let d = longer dashes (boundary ++ rest) in
    let v = longer e.value (dashes ++ (boundary ++ rest)) in
    let n = longer behind_name (e.value ++ (dashes ++ (boundary ++ rest))) in
    let q = longer e.name (34 ∷ (behind_name ++ (e.value ++ (dashes ++ (boundary ++ rest))))) in
    let h = longer before_name (e.name ++ 34 ∷ (behind_name ++ (e.value ++ (dashes ++ (boundary ++ rest))))) in
    omega (arith, b, d, v, n, q, h)

tail_long : (boundary : List ℕ) (list : List Entry) → length list ≤ length (tail_text boundary list)
tail_long boundary [] = omega arith
tail_long boundary (e ∷ list) = let one = part_longer boundary e (tail_text boundary list) in let more = tail_long boundary list in omega (arith, one, more)

-- ---- the whole body

abbrev end_of : List ℕ → List ℕ → List ℕ
end_of boundary front = front ++ codes "--" ++ boundary ++ codes "--" ++ newline

one_text : (boundary : List ℕ) (e : Entry) (rest : List ℕ)
    → part boundary e ++ (codes "--" ++ (boundary ++ rest)) ≡ codes "--" ++ (boundary ++ part_text boundary e rest)
one_text boundary e rest = simp append_assoc refl

end_more : (boundary xs ys : List ℕ) → end_of boundary (xs ++ ys) ≡ xs ++ end_of boundary ys
end_more boundary xs ys = simp append_assoc refl

pub whole_body : (boundary : List ℕ) (list : List Entry) → end_of boundary (flat_map (part boundary) list) ≡ codes "--" ++ (boundary ++ tail_text boundary list)
whole_body boundary [] = simp append_assoc refl
whole_body boundary (e ∷ list) =
    end_more boundary (part boundary e) (flat_map (part boundary) list)
    ∙ (ap (λ (l : List ℕ). part boundary e ++ l) (whole_body boundary list) ∙ one_text boundary e (tail_text boundary list))

-- ---- UTF-8

abbrev AreAscii : List ℕ → Type 0
AreAscii bs = AllByRecursion (λ b. b < 128) bs

pub bound_ascii : (boundary : List ℕ) → AllByRecursion IsBound boundary → AreAscii boundary
bound_ascii [] are = tt
bound_ascii (b ∷ boundary) are = (are.0.low, bound_ascii boundary are.1)

pub front_utf8 : (front rest : List ℕ) → AreAscii front → IsUtf8 rest → IsUtf8 (front ++ rest)
front_utf8 [] rest are is = is
front_utf8 (b ∷ front) rest are is = IsUtf8-append (b ∷ []) (front ++ rest) (IsUtf8-ascii b are.0) (front_utf8 front rest are.1 is)

behind_utf8 : (front rest : List ℕ) → AreAscii front → IsUtf8 (front ++ rest) → IsUtf8 rest
behind_utf8 [] rest are is = is
behind_utf8 (b ∷ front) rest are is = behind_utf8 front rest are.1 (utf8_around b [] (front ++ rest) are.0 is).1

abbrev all_low : List ℕ → Bool
all_low [] = true
all_low (b ∷ bs) = nat_lt b 128 && all_low bs

pub ascii_by : (bs : List ℕ) → all_low bs ≡ true → AreAscii bs
ascii_by [] is = tt
ascii_by (b ∷ bs) is = let both = and_parts (nat_lt b 128) (all_low bs) is in (ltb-true b 128 both.0, ascii_by bs both.1)

part_utf8 : (boundary : List ℕ) (e : Entry) (rest : List ℕ) → AreAscii boundary → HasTexts e → IsUtf8 rest → IsUtf8 (part_text boundary e rest)
part_utf8 boundary e rest are texts is =
    let d = front_utf8 dashes (boundary ++ rest) (ascii_by dashes refl) (front_utf8 boundary rest are is) in
    let v = IsUtf8-append e.value (dashes ++ (boundary ++ rest)) texts.1 d in
    let q = front_utf8 (34 ∷ behind_name) (e.value ++ (dashes ++ (boundary ++ rest))) (ascii_by (34 ∷ behind_name) refl) v in
    front_utf8 before_name (e.name ++ 34 ∷ (behind_name ++ (e.value ++ (dashes ++ (boundary ++ rest))))) (ascii_by before_name refl)
    (IsUtf8-append e.name (34 ∷ (behind_name ++ (e.value ++ (dashes ++ (boundary ++ rest))))) texts.0 q)

pub tail_utf8 : (boundary : List ℕ) (list : List Entry) → AreAscii boundary → AllByRecursion HasTexts list → IsUtf8 (tail_text boundary list)
tail_utf8 boundary [] are texts = front_utf8 closing [] (ascii_by closing refl) IsUtf8-nil
tail_utf8 boundary (e ∷ list) are texts = part_utf8 boundary e (tail_text boundary list) are texts.0 (tail_utf8 boundary list are texts.1)

part_texts : (boundary : List ℕ) (e : Entry) (rest : List ℕ) → AreAscii boundary → IsUtf8 (part_text boundary e rest) → HasTexts e × IsUtf8 rest
part_texts boundary e rest are is =
    let named = behind_utf8 before_name (e.name ++ 34 ∷ (behind_name ++ (e.value ++ (dashes ++ (boundary ++ rest))))) (ascii_by before_name refl) is in
    let n = utf8_around 34 e.name (behind_name ++ (e.value ++ (dashes ++ (boundary ++ rest)))) (omega arith) named in
    let valued = behind_utf8 behind_name (e.value ++ (dashes ++ (boundary ++ rest))) (ascii_by behind_name refl) n.1 in
    let v = utf8_around 13 e.value (10 ∷ 45 ∷ 45 ∷ (boundary ++ rest)) (omega arith) valued in
    ((n.0, v.0), behind_utf8 boundary rest are (behind_utf8 (10 ∷ 45 ∷ 45 ∷ []) (boundary ++ rest) (ascii_by (10 ∷ 45 ∷ 45 ∷ []) refl) v.1))

tail_texts : (boundary : List ℕ) (list : List Entry) → AreAscii boundary → IsUtf8 (tail_text boundary list) → AllByRecursion HasTexts list
tail_texts boundary [] are is = tt
tail_texts boundary (e ∷ list) are is = let both = part_texts boundary e (tail_text boundary list) are is in (both.0, tail_texts boundary list are both.1)

-- ---- bodies

multipart_behind : (boundary rest : List ℕ) (h : Option (List ℕ)) (list : List Entry) → HasSome boundary → behind boundary rest ≡ h
    → tail_behind boundary h ≡ Some list → (bytes : List ℕ) × (rest ≡ boundary ++ bytes) × AreParts boundary list bytes
multipart_behind boundary rest None list some is e = absurd cc
multipart_behind boundary rest (Some bytes) list some is e =
    (bytes, behind_said boundary rest bytes is, tail_said (length bytes + 1) boundary some bytes list e)

multipart_open : (boundary bytes : List ℕ) (h : Option (List ℕ)) (list : List Entry) → HasSome boundary → AllByRecursion IsBound boundary
    → behind (codes "--") bytes ≡ h → tail_behind boundary (behind_dashes boundary h) ≡ Some list → PartText list boundary bytes
multipart_open boundary bytes None list some are is e = absurd cc
multipart_open boundary bytes (Some rest) list some are is e =
    let (after, opened, parts) = multipart_behind boundary rest (behind boundary rest) list some refl e in
    let joined : bytes ≡ codes "--" ++ (boundary ++ tail_text boundary list) =
    behind_said (codes "--") bytes rest is ∙ (ap (λ (l : List ℕ). codes "--" ++ l) opened ∙ ap (λ (l : List ℕ). codes "--" ++ (boundary ++ l)) parts.joined) in
    let ascii = bound_ascii boundary are in (
      subst IsUtf8 (sym joined) (front_utf8 (codes "--") (boundary ++ tail_text boundary list) (ascii_by (codes "--") refl)
          (front_utf8 boundary (tail_text boundary list) ascii (tail_utf8 boundary list ascii parts.texts))),
      All-from_recursion (FitsPart boundary) list parts.fit,
      joined ∙ sym (whole_body boundary list),
    )

multipart_said : (boundary bytes : List ℕ) (list : List Entry) → IsBoundary boundary → multipart_entries boundary bytes ≡ Some list
    → PartText list boundary bytes
multipart_said boundary bytes list is e =
    multipart_open boundary bytes (behind (codes "--") bytes) list (boundary_some boundary is) (boundary_bounds boundary is) refl e

multipart_again : (boundary bytes : List ℕ) (list : List Entry) → IsBoundary boundary → PartText list boundary bytes
    → multipart_entries boundary bytes ≡ Some list
multipart_again boundary bytes list is (utf8, fit, joined) =
    let are = boundary_bounds boundary is in
    let ascii = bound_ascii boundary are in
    let opened : bytes ≡ codes "--" ++ (boundary ++ tail_text boundary list) = joined ∙ whole_body boundary list in
    let rest = behind_utf8 boundary (tail_text boundary list) ascii
    (behind_utf8 (codes "--") (boundary ++ tail_text boundary list) (ascii_by (codes "--") refl) (subst IsUtf8 opened utf8)) in
    let long = tail_long boundary list in
    let small : length list < length (tail_text boundary list) + 1 = omega (arith, long) in
    ap (multipart_entries boundary) opened
    ∙ (ap (λ (h : Option (List ℕ)). tail_behind boundary (behind_dashes boundary h)) (behind_again (codes "--") (boundary ++ tail_text boundary list))
    ∙ (ap (tail_behind boundary) (behind_again boundary (tail_text boundary list))
    ∙ tail_again (length (tail_text boundary list) + 1) boundary list (boundary_some boundary is) are (recursion_from_All (FitsPart boundary) list fit)
    (tail_texts boundary list ascii rest) small))

no_multipart : (boundary bytes : List ℕ) (list : List Entry) → IsBoundary boundary → multipart_entries boundary bytes ≡ None → PartText list boundary bytes → ⊥
no_multipart boundary bytes list is none body = let both : None ≡ Some list = sym none ∙ multipart_again boundary bytes list is body in absurd cc

pub multipart_reads : (r : Result (List Entry) BodyRefused) (boundary bytes : List ℕ) → IsBoundary boundary → Gives r (multipart_entries boundary bytes)
    → Reads (λ (list : List Entry). PartText list boundary bytes) r
multipart_reads (Ok list) boundary bytes is gives = multipart_said boundary bytes list is gives
multipart_reads (Err NotABody) boundary bytes is gives = λ list body. no_multipart boundary bytes list is gives body
multipart_reads (Err NoMemory) boundary bytes is gives = tt

pub multipart_one : (boundary bytes : List ℕ) (a b : List Entry) → IsBoundary boundary → PartText a boundary bytes → PartText b boundary bytes → a ≡ b
multipart_one boundary bytes a b is one two = let same : Some a ≡ Some b =
    sym (multipart_again boundary bytes a is one) ∙ multipart_again boundary bytes b is two in (cc)
