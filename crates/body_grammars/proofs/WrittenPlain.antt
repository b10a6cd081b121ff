-- What is written as plain text is read back, where no name has = and no name or value has CR or LF.
use Rattle.std.proofs.Common.{◌≡◌, ℕ, Bool, false, List, [], ◌∷◌, refl, sym, subst}
use Rattle.std.proofs.lemmas.List.Elements.{recursion_from_All}
use Rattle.std.specs.List.{AllByRecursion}
use Rattle.std.specs.Prelude.{IsUtf8, flat_map, All}
use Rattle.ce_base.specs.Texts.{HasTexts}
use Rattle.ce_base.specs.declared.entries.Entry.{Entry}
use Rattle.form_submission.specs.Encodings.{plain, plain_line}
use Rattle.form_submission.specs.LineEnds.{full_from}
use Rattle.body_grammars.specs.Bodies.{HasNo, IsPlain, line, PlainText}
use Rattle.body_grammars.proofs.CutLaws.{Free, free_from_no}
use Rattle.body_grammars.proofs.PlainLaws.{lines_utf8}

full_free : (p : Bool) (text : List ℕ) → Free 13 text → Free 10 text → full_from p text ≡ text
full_free p [] cr lf = refl
full_free p (b ∷ text) cr lf = rw (cr.0, lf.0, full_free false text cr.1 lf.1) refl

full_same : (p : Bool) (text : List ℕ) → HasNo 13 text → HasNo 10 text → full_from p text ≡ text
full_same p text cr lf = full_free p text (free_from_no 13 text cr) (free_from_no 10 text lf)

line_same : (e : Entry) → IsPlain e → line e ≡ plain_line e
line_same e is = rw (full_same _ e.name is.1 is.2, full_same _ e.value is.3 is.4) refl

lines_same : (entries : List Entry) → AllByRecursion IsPlain entries → flat_map line entries ≡ plain entries
lines_same [] are = refl
lines_same (e ∷ entries) are = rw (line_same e are.0, lines_same entries are.1) refl

pub plain_back : (entries : List Entry) → All HasTexts entries → All IsPlain entries → PlainText entries (plain entries)
plain_back entries texts are =
    let same = lines_same entries (recursion_from_All IsPlain entries are) in
    (subst IsUtf8 same (lines_utf8 entries (recursion_from_All HasTexts entries texts)), are, sym same)
