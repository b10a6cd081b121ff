-- A plain text body is read to the list for which the relation holds, and no other.
use Rattle.std.proofs.Common.{◌≡◌, ℕ, List, [], ◌∷◌, ◌++◌, Option, Some, None, Result, Ok, Err, refl, sym, ap, subst, ◌∙◌, append_assoc, arith}
use Rattle.std.proofs.lemmas.List.Elements.{All-from_recursion, recursion_from_All}
use Rattle.std.proofs.lemmas.List.Splits.{join_with_byte-slice_split}
use Rattle.std.proofs.lemmas.Str.{IsUtf8-append, IsUtf8-nil, is_utf8-from_IsUtf8}
use Rattle.std.specs.List.{AllByRecursion, join_with_byte, slice_split}
use Rattle.std.specs.Prelude.{IsUtf8, flat_map}
use Rattle.std.specs.Str.{is_utf8}
use Rattle.ce_base.specs.Texts.{HasTexts}
use Rattle.ce_base.specs.declared.entries.Entry.{Entry}
use Rattle.ce_base.proofs.Utf8.{IsUtf8-ascii}
use Rattle.form_submission.specs.Encodings.{plain}
use Rattle.body_grammars.specs.Bodies.{part, HasNo, IsPlain, line, PlainText}
use Rattle.body_grammars.specs.Cuts.{behind, cut_at, is_byte, only_utf8}
use Rattle.body_grammars.specs.Gives.{Gives}
use Rattle.body_grammars.specs.ReadPlain.{read_line, read_line_cut, read_lines, plain_entries, read_whole_line}
use Rattle.body_grammars.specs.Reads.{Reads}
use Rattle.body_grammars.specs.declared.refused.BodyRefused.{BodyRefused}
use Rattle.body_grammars.specs.declared.refused.BodyRefused.TheVariants.{NotABody, NoMemory}
use Rattle.body_grammars.proofs.CutLaws.{Free, free_both, cut_again, Joined, cut_joined, no_from_free, free_from_no, free_parts, Before, cut_before}
use Rattle.body_grammars.proofs.GivesLaws.{one_some, utf8_some, paired_some}
use Rattle.body_grammars.proofs.SplitLaws.{split_at, AreFree, split_frees, split_has_one, lines_step}
use Rattle.body_grammars.proofs.TextLaws.{utf8_around}

-- ---- a line

-- a line up to its LF
abbrev core : Entry → List ℕ
core e = (e.name ++ 61 ∷ e.value) ++ 13 ∷ []

record IsLine (e : Entry) (part : List ℕ) : Type 0 where
  pub plain : IsPlain e
  pub texts : HasTexts e
  pub joined : part ≡ core e

line_cut : (part line : List ℕ) (o : Option (List ℕ × List ℕ)) (e : Entry) → part ≡ line ++ 13 ∷ [] → Free 13 line → Free 10 line → Joined 61 line o
    → Before 61 o → read_line_cut o ≡ Some e → IsLine e part
line_cut part line None e whole f13 f10 joined f61 is = absurd cc
line_cut part line (Some (name, value)) e whole f13 f10 joined f61 is =
    let both = paired_some (only_utf8 name) (only_utf8 value) e is in
    let n = utf8_some name e.name (is_utf8 name) refl both.0 in
    let v = utf8_some value e.value (is_utf8 value) refl both.1 in
    let cr = free_parts 13 name (61 ∷ value) (subst (Free 13) joined f13) in
    let lf = free_parts 10 name (61 ∷ value) (subst (Free 10) joined f10) in
    record {
      plain = (
        subst (HasNo 61) n.0 (no_from_free 61 name f61),
        subst (HasNo 13) n.0 (no_from_free 13 name cr.0),
        subst (HasNo 10) n.0 (no_from_free 10 name lf.0),
        subst (HasNo 13) v.0 (no_from_free 13 value cr.1.1),
        subst (HasNo 10) v.0 (no_from_free 10 value lf.1.1),
      );
      texts = (n.1, v.1);
      joined = whole ∙ (ap (λ (l : List ℕ). l ++ 13 ∷ []) joined
          ∙ (ap (λ (x : List ℕ). (x ++ 61 ∷ value) ++ 13 ∷ []) n.0 ∙ ap (λ (x : List ℕ). (e.name ++ 61 ∷ x) ++ 13 ∷ []) v.0));
    }

line_whole : (part : List ℕ) (o : Option (List ℕ × List ℕ)) (e : Entry) → Free 10 part → Joined 13 part o → Before 13 o → read_whole_line o ≡ Some e
    → IsLine e part
line_whole part None e f10 joined f13 is = absurd cc
line_whole part (Some (line, b ∷ behind)) e f10 joined f13 is = absurd cc
line_whole part (Some (line, [])) e f10 joined f13 is =
    line_cut part line (cut_at 61 line) e joined f13 (free_parts 10 line (13 ∷ []) (subst (Free 10) joined f10)).0 (cut_joined 61 line) (cut_before 61 line) is

line_said : (part : List ℕ) (e : Entry) → Free 10 part → read_line part ≡ Some e → IsLine e part
line_said part e f10 is = line_whole part (cut_at 13 part) e f10 (cut_joined 13 part) (cut_before 13 part) is

line_again : (e : Entry) → IsPlain e → HasTexts e → read_line (core e) ≡ Some e
line_again e plain texts =
    let free = free_both 13 e.name (61 ∷ e.value) (free_from_no 13 e.name plain.1) (refl, free_from_no 13 e.value plain.3) in
    ap read_whole_line (cut_again 13 (e.name ++ 61 ∷ e.value) [] free)
    ∙ (ap read_line_cut (cut_again 61 e.name e.value (free_from_no 61 e.name plain.0))
    ∙ rw (is_utf8-from_IsUtf8 e.name texts.0, is_utf8-from_IsUtf8 e.value texts.1) refl)

core_line : (e : Entry) (rest : List ℕ) → line e ++ rest ≡ core e ++ 10 ∷ rest
core_line e rest =
    ap (λ (l : List ℕ). (l ++ 13 ∷ 10 ∷ []) ++ rest) (append_assoc e.name (61 ∷ []) e.value)
    ∙ (append_assoc (e.name ++ 61 ∷ e.value) (13 ∷ 10 ∷ []) rest ∙ sym (append_assoc (e.name ++ 61 ∷ e.value) (13 ∷ []) (10 ∷ rest)))

core_free : (e : Entry) → IsPlain e → Free 10 (core e)
core_free e plain = free_both 10 (e.name ++ 61 ∷ e.value) (13 ∷ [])
    (free_both 10 e.name (61 ∷ e.value) (free_from_no 10 e.name plain.2) (refl, free_from_no 10 e.value plain.4)) (refl, tt)

-- ---- all lines

record AreLines (list : List Entry) (bytes : List ℕ) : Type 0 where
  pub plain : AllByRecursion IsPlain list
  pub texts : AllByRecursion HasTexts list
  pub joined : bytes ≡ flat_map line list

one_line_more : (e : Entry) (list : List Entry) (part rest : List ℕ) → IsLine e part → AreLines list rest → AreLines (e ∷ list) (part ++ 10 ∷ rest)
one_line_more e list part rest one more = record {
  plain = (one.plain, more.plain);
  texts = (one.texts, more.texts);
  joined = ap (λ (p : List ℕ). p ++ 10 ∷ rest) one.joined ∙ (ap (λ (r : List ℕ). core e ++ 10 ∷ r) more.joined ∙ sym (core_line e (flat_map line list)));
}

no_lines : (list : List Entry) → Some [] ≡ Some list → AreLines list []
no_lines list is = let e : [] ≡ list = (cc) in subst (λ (l : List Entry). AreLines l []) e (record { plain = tt; texts = tt; joined = refl })

lines_said : (parts : List (List ℕ)) (list : List Entry) → AreFree 10 parts → read_lines parts ≡ Some list → AreLines list (join_with_byte 10 parts)
lines_said [] list are is = absurd cc
lines_said ([] ∷ []) list are is = no_lines list is
lines_said ((b ∷ part) ∷ []) list are is = absurd cc
lines_said (part ∷ next ∷ parts) list are is =
    let (e, rest, is_e, is_rest, joined) = one_some (read_line part) (read_lines (next ∷ parts)) list (sym (lines_step part (next ∷ parts) tt) ∙ is) in
    subst (λ (l : List Entry). AreLines l (part ++ 10 ∷ join_with_byte 10 (next ∷ parts))) (sym joined)
    (one_line_more e rest part (join_with_byte 10 (next ∷ parts)) (line_said part e are.0 is_e) (lines_said (next ∷ parts) rest are.1 is_rest))

lines_again : (list : List Entry) → AllByRecursion IsPlain list → AllByRecursion HasTexts list
    → read_lines (slice_split (is_byte 10) (flat_map line list)) ≡ Some list
lines_again [] plain texts = refl
lines_again (e ∷ list) plain texts =
    ap (λ (b : List ℕ). read_lines (slice_split (is_byte 10) b)) (core_line e (flat_map line list))
    ∙ (ap read_lines (split_at 10 (core e) (flat_map line list) (core_free e plain.0))
    ∙ (lines_step (core e) (slice_split (is_byte 10) (flat_map line list)) (split_has_one 10 (flat_map line list))
    ∙ rw (line_again e plain.0 texts.0, lines_again list plain.1 texts.1) refl))

-- ---- UTF-8

line_utf8 : (e : Entry) → HasTexts e → IsUtf8 (line e)
line_utf8 e texts =
    IsUtf8-append ((e.name ++ 61 ∷ []) ++ e.value) (13 ∷ 10 ∷ [])
    (IsUtf8-append (e.name ++ 61 ∷ []) e.value (IsUtf8-append e.name (61 ∷ []) texts.0 (IsUtf8-ascii 61 (omega arith))) texts.1)
    (IsUtf8-append (13 ∷ []) (10 ∷ []) (IsUtf8-ascii 13 (omega arith)) (IsUtf8-ascii 10 (omega arith)))

pub lines_utf8 : (list : List Entry) → AllByRecursion HasTexts list → IsUtf8 (flat_map line list)
lines_utf8 [] texts = IsUtf8-nil
lines_utf8 (e ∷ list) texts = IsUtf8-append (line e) (flat_map line list) (line_utf8 e texts.0) (lines_utf8 list texts.1)

texts_of : (list : List Entry) → IsUtf8 (flat_map line list) → AllByRecursion HasTexts list
texts_of [] is = tt
texts_of (e ∷ list) is =
    let rest = flat_map line list in
    let lf = utf8_around 10 (core e) rest (omega arith) (subst IsUtf8 (core_line e rest) is) in
    let cr = utf8_around 13 (e.name ++ 61 ∷ e.value) [] (omega arith) lf.0 in
    (utf8_around 61 e.name e.value (omega arith) cr.0, texts_of list lf.1)

-- ---- bodies

plain_said : (bytes : List ℕ) (list : List Entry) → plain_entries bytes ≡ Some list → PlainText list bytes
unfolding plain_entries
plain_said bytes list is =
    let are = lines_said (slice_split (is_byte 10) bytes) list (split_frees 10 bytes) is in
    let joined = sym (join_with_byte-slice_split 10 bytes) ∙ are.joined in
    (subst IsUtf8 (sym joined) (lines_utf8 list are.texts), All-from_recursion IsPlain list are.plain, joined)

plain_again : (list : List Entry) (bytes : List ℕ) → PlainText list bytes → plain_entries bytes ≡ Some list
unfolding plain_entries
plain_again list bytes (utf8, plain, joined) =
    ap (λ (b : List ℕ). read_lines (slice_split (is_byte 10) b)) joined
    ∙ lines_again list (recursion_from_All IsPlain list plain) (texts_of list (subst IsUtf8 joined utf8))

no_plain : (bytes : List ℕ) (list : List Entry) → plain_entries bytes ≡ None → PlainText list bytes → ⊥
no_plain bytes list none is = let both : None ≡ Some list = sym none ∙ plain_again list bytes is in absurd cc

pub plain_reads : (r : Result (List Entry) BodyRefused) (bytes : List ℕ) → Gives r (plain_entries bytes) → Reads (λ (list : List Entry). PlainText list bytes) r
plain_reads (Ok list) bytes gives = plain_said bytes list gives
plain_reads (Err NotABody) bytes gives = λ list is. no_plain bytes list gives is
plain_reads (Err NoMemory) bytes gives = tt

pub plain_one : (bytes : List ℕ) (a b : List Entry) → PlainText a bytes → PlainText b bytes → a ≡ b
plain_one bytes a b one two = let same : Some a ≡ Some b = sym (plain_again a bytes one) ∙ plain_again b bytes two in (cc)
