-- What is written multipart is read back as the list, with its names escaped and the line ends of its values as they are sent.
use Rattle.std.proofs.Common.{◌≡◌, ℕ, false, List, [], ◌∷◌, ◌++◌, refl, sym, ap, subst, ◌∙◌, codes, map}
use Rattle.std.proofs.lemmas.Bool.{cond_both, or_parts}
use Rattle.std.proofs.lemmas.List.Elements.{All-from_recursion, recursion_from_All}
use Rattle.std.specs.List.{AllByRecursion}
use Rattle.std.specs.Prelude.{IsUtf8, flat_map, All, nat_eq}
use Rattle.ce_base.specs.Texts.{HasTexts}
use Rattle.ce_base.specs.declared.entries.Entry.{Entry}
use Rattle.form_submission.proofs.Texts.{IsUtf8-with_full_newlines, IsUtf8-escaped}
use Rattle.form_submission.specs.Encodings.{escaped_byte, is_broken_by, multipart, part as part_sent}
use Rattle.form_submission.specs.LineEnds.{newline, with_full_newlines}
use Rattle.submit_encoders.proofs.Free.{occurs-with_full_newlines}
use Rattle.submit_encoders.specs.Cuts.{has_line_end}
use Rattle.body_grammars.specs.Bodies.{FitsPart, part, PartText, IsBoundary}
use Rattle.body_grammars.specs.Written.{as_part}
use Rattle.body_grammars.proofs.CutLaws.{Free, free_both, no_from_free}
use Rattle.body_grammars.proofs.FrontLaws.{IsBound, boundary_bounds}
use Rattle.body_grammars.proofs.MultipartLaws.{tail_text, whole_body, bound_ascii, front_utf8, ascii_by, tail_utf8}

-- ---- names

-- no quote, no CR and no LF
abbrev IsName : List ℕ → Type 0
IsName text = Free 34 text × Free 13 text × Free 10 text

cell_name : (b : ℕ) → IsName (escaped_byte b)
cell_name b =
    cond_both (nat_eq b 10) _ _ IsName (λ _. ((refl, (refl, (refl, tt))), (refl, (refl, (refl, tt))), (refl, (refl, (refl, tt)))))
    (λ lf. cond_both (nat_eq b 13) _ _ IsName (λ _. ((refl, (refl, (refl, tt))), (refl, (refl, (refl, tt))), (refl, (refl, (refl, tt)))))
    (λ cr. cond_both (nat_eq b 34) _ _ IsName (λ _. ((refl, (refl, (refl, tt))), (refl, (refl, (refl, tt))), (refl, (refl, (refl, tt)))))
    (λ quote. ((quote, tt), (cr, tt), (lf, tt)))))

escaped_name : (text : List ℕ) → IsName (flat_map escaped_byte text)
escaped_name [] = (tt, tt, tt)
escaped_name (b ∷ text) =
    let one = cell_name b in
    let more = escaped_name text in
    let rest = flat_map escaped_byte text in
    (free_both 34 (escaped_byte b) rest one.0 more.0, free_both 13 (escaped_byte b) rest one.1 more.1, free_both 10 (escaped_byte b) rest one.2 more.2)

-- ---- boundaries

no_line_end : (boundary : List ℕ) → AllByRecursion IsBound boundary → has_line_end boundary ≡ false
no_line_end [] are = refl
no_line_end (b ∷ boundary) are = rw (are.0.cr, are.0.lf, no_line_end boundary are.1) refl

-- ---- parts

fits_written : (boundary : List ℕ) (entries : List Entry) → has_line_end boundary ≡ false → is_broken_by entries boundary ≡ false
    → AllByRecursion (FitsPart boundary) (map as_part entries)
fits_written boundary [] one is = tt
fits_written boundary (e ∷ entries) one is =
    let both = or_parts _ _ is in
    let value = (or_parts _ _ both.0).1 in
    let name = escaped_name (with_full_newlines e.name) in (
      (no_from_free 34 _ name.0, no_from_free 13 _ name.1, no_from_free 10 _ name.2, occurs-with_full_newlines boundary e.value one ∙ value),
      fits_written boundary entries one both.1,
    )

texts_written : (entries : List Entry) → AllByRecursion HasTexts entries → AllByRecursion HasTexts (map as_part entries)
texts_written [] are = tt
texts_written (e ∷ entries) are = ((IsUtf8-escaped e.name are.0.0, IsUtf8-with_full_newlines e.value are.0.1), texts_written entries are.1)

parts_same : (boundary : List ℕ) (entries : List Entry) → flat_map (part_sent boundary) entries ≡ flat_map (part boundary) (map as_part entries)
parts_same boundary [] = refl
parts_same boundary (e ∷ entries) = ap (λ (l : List ℕ). part_sent boundary e ++ l) (parts_same boundary entries)

pub multipart_back : (entries : List Entry) (boundary : List ℕ) → IsBoundary boundary → All HasTexts entries → is_broken_by entries boundary ≡ false
    → PartText (map as_part entries) boundary (multipart entries boundary)
multipart_back entries boundary is texts free =
    let are = boundary_bounds boundary is in
    let ascii = bound_ascii boundary are in
    let list = map as_part entries in
    let texts' = texts_written entries (recursion_from_All HasTexts entries texts) in
    let joined : multipart entries boundary ≡ flat_map (part boundary) list ++ codes "--" ++ boundary ++ codes "--" ++ newline =
    ap (λ (l : List ℕ). l ++ codes "--" ++ boundary ++ codes "--" ++ newline) (parts_same boundary entries) in (
      subst IsUtf8 (sym (joined ∙ whole_body boundary list))
          (front_utf8 (codes "--") (boundary ++ tail_text boundary list) (ascii_by (codes "--") refl)
          (front_utf8 boundary (tail_text boundary list) ascii (tail_utf8 boundary list ascii texts'))),
      All-from_recursion (FitsPart boundary) list (fits_written boundary entries (no_line_end boundary are) free),
      joined,
    )
