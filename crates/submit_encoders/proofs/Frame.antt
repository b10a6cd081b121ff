-- The lines of a multipart body that begin with its delimiter.
use Rattle.std.proofs.Common.{◌≡◌, ◌||◌, ℕ, Bool, true, false, cond, List, [], ◌∷◌, ◌++◌, map, refl, sym, ap, ◌∙◌, subst, append_assoc, append-nil, codes}
use Rattle.std.specs.Prelude.{nat_eq, filter, flat_map}
use Rattle.std.specs.List.{starts_with}
use Rattle.std.proofs.lemmas.Bool.{cond_both, or_from, or_parts, false_from_ne_true}
use Rattle.std.proofs.lemmas.List.Elements.{filter-append}
use Rattle.std.proofs.lemmas.List.Folds.{list_any-append}
use Rattle.form_controls.specs.Texts.{is_newline}
use Rattle.ce_base.specs.declared.entries.Entry.{Entry}
use Rattle.form_submission.specs.Encodings.{escaped, escaped_byte, is_broken_by, multipart, occurs, part}
use Rattle.form_submission.specs.LineEnds.{newline, with_full_newlines}
use Rattle.submit_encoders.specs.Cuts.{has_line_end}
use Rattle.submit_encoders.specs.Lines.{delimiter, delimiting_lines, is_delimiting, lines}
use Rattle.submit_encoders.proofs.Free.{occurs-with_full_newlines}
use Rattle.submit_encoders.proofs.Occurs.{begins_from, begins_with, occurs_within}

-- ---- lines, one behind another

-- a line, its end, and what follows
lines-line : (line : List ℕ) (b : ℕ) (rest : List ℕ) → has_line_end line ≡ false → is_newline b ≡ true → lines (line ++ b ∷ rest) ≡ line ∷ lines rest
lines-line [] b rest is ends = rw ends refl
lines-line (x ∷ line) b rest is ends =
    let parts = or_parts (is_newline x) (has_line_end line) is in
    rw (parts.0, lines-line line b rest parts.1 ends) refl

-- a line with a full line end behind it: one of those that delimit, or none
line_delimits : (boundary line rest : List ℕ) → has_line_end line ≡ false
    → delimiting_lines boundary (line ++ 13 ∷ 10 ∷ rest)
    ≡ cond (is_delimiting boundary line) (line ∷ delimiting_lines boundary rest) (delimiting_lines boundary rest)
line_delimits boundary line rest is = ap (filter (is_delimiting boundary)) (lines-line line 13 (10 ∷ rest) is refl)

-- ---- a text in which the boundary does not stand

-- what is the first line of a text, and what are the others
record FirstLine (text line : List ℕ) (others : List (List ℕ)) : Type 0 where
  are : lines text ≡ line ∷ others
  rest : List ℕ
  front : text ≡ line ++ rest

first_line_of : (text : List ℕ) → (line : List ℕ) × (others : List (List ℕ)) × FirstLine text line others
first_line_of [] = ([], [], record { are = refl; rest = []; front = refl })
first_line_of (b ∷ text) = cases (is_newline b) refl (first_line_of text)
  where
    cases : (t : Bool) → is_newline b ≡ t → ((line : List ℕ) × (others : List (List ℕ)) × FirstLine text line others)
        → (line : List ℕ) × (others : List (List ℕ)) × FirstLine (b ∷ text) line others
    cases true ends (line, others, later) = ([], lines text, record { are = rw ends refl; rest = b ∷ text; front = refl })
    cases false other (line, others, later) =
        (b ∷ line, others, record { are = rw (other, later.are) refl; rest = later.rest; front = ap (λ l. b ∷ l) later.front })

-- the delimiter at the front of the first line has the boundary in the text
not_delimiting : (boundary text line : List ℕ) (others : List (List ℕ)) → FirstLine text line others → occurs boundary text ≡ false
    → is_delimiting boundary line ≡ false
not_delimiting boundary text line others first free =
    false_from_ne_true (is_delimiting boundary line)
    (λ begins.
    let rest = begins_from (delimiter boundary) line begins in
    let front : text ≡ codes "--" ++ (boundary ++ (rest.0 ++ first.rest)) = first.front ∙ (ap (λ l. l ++ first.rest) rest.1 ∙ simp append_assoc) in
    let occurs_there : occurs boundary text ≡ true = ap (occurs boundary) front ∙ occurs_within (codes "--") boundary (rest.0 ++ first.rest) in
    let both : true ≡ false = sym occurs_there ∙ free in
    absurd (cc))

-- what stands before a line end has its lines, and what follows it has its own
lines-append : (text : List ℕ) (b : ℕ) (rest : List ℕ) → is_newline b ≡ true → lines (text ++ b ∷ rest) ≡ lines text ++ lines rest
lines-append [] b rest ends = rw ends refl
lines-append (x ∷ text) b rest ends = cases (is_newline x) refl (lines-append text b rest ends) (first_line_of text)
  where
    cases : (t : Bool) → is_newline x ≡ t → lines (text ++ b ∷ rest) ≡ lines text ++ lines rest
        → ((line : List ℕ) × (others : List (List ℕ)) × FirstLine text line others) → lines (x ∷ (text ++ b ∷ rest)) ≡ lines (x ∷ text) ++ lines rest
    cases true is more first = rw (is, more) refl
    cases false is more (line, others, first) = rw (is, more, first.are) refl

none_delimits : (boundary text : List ℕ) → occurs boundary text ≡ false → delimiting_lines boundary text ≡ []
none_delimits boundary [] free = refl
none_delimits boundary (b ∷ text) free = cases (is_newline b) refl (none_delimits boundary text later) (first_line_of text)
  where
    later : occurs boundary text ≡ false
    later = (or_parts (starts_with nat_eq (b ∷ text) boundary) (occurs boundary text) free).1

    cases : (t : Bool) → is_newline b ≡ t → delimiting_lines boundary text ≡ [] → ((line : List ℕ) × (others : List (List ℕ)) × FirstLine text line others)
        → delimiting_lines boundary (b ∷ text) ≡ []
    cases true ends none first = rw ends none
    cases false other none (line, others, first) =
        let same : FirstLine (b ∷ text) (b ∷ line) others =
        record { are = rw (other, first.are) refl; rest = first.rest; front = ap (λ l. b ∷ l) first.front } in
        let here : is_delimiting boundary (b ∷ line) ≡ false = not_delimiting boundary (b ∷ text) (b ∷ line) others same free in
        let there : is_delimiting boundary line ≡ false = not_delimiting boundary text line others first later in
        let others_none : filter (is_delimiting boundary) others ≡ [] =
        ap (λ t. cond t (line ∷ filter (is_delimiting boundary) others) (filter (is_delimiting boundary) others)) (sym there)
        ∙ (ap (filter (is_delimiting boundary)) (sym first.are) ∙ none) in
        ap (filter (is_delimiting boundary)) same.are
        ∙ (ap (λ t. cond t ((b ∷ line) ∷ filter (is_delimiting boundary) others) (filter (is_delimiting boundary) others)) here ∙ others_none)

text_passes : (boundary text rest : List ℕ) → occurs boundary text ≡ false → delimiting_lines boundary (text ++ 13 ∷ 10 ∷ rest) ≡ delimiting_lines boundary rest
text_passes boundary text rest free =
    ap (filter (is_delimiting boundary)) (lines-append text 13 (10 ∷ rest) refl)
    ∙ (filter-append (is_delimiting boundary) (lines text) ([] ∷ lines rest) ∙ ap (λ l. l ++ delimiting_lines boundary rest) (none_delimits boundary text free))

-- ---- names

has_line_end-escaped_byte : (b : ℕ) → has_line_end (escaped_byte b) ≡ false
has_line_end-escaped_byte b =
    cond_both (nat_eq b 10) _ _ (λ l. has_line_end l ≡ false) (λ _. refl)
    (λ feed. cond_both (nat_eq b 13) _ _ (λ l. has_line_end l ≡ false) (λ _. refl)
    (λ return. cond_both (nat_eq b 34) _ _ (λ l. has_line_end l ≡ false) (λ _. refl)
    (λ _. or_from (is_newline b) false (or_from (nat_eq b 13) (nat_eq b 10) return feed) refl)))

has_line_end-escaped : (text : List ℕ) → has_line_end (flat_map escaped_byte text) ≡ false
has_line_end-escaped [] = refl
has_line_end-escaped (b ∷ text) =
    list_any-append is_newline (escaped_byte b) (flat_map escaped_byte text)
    ∙ or_from (has_line_end (escaped_byte b)) (has_line_end (flat_map escaped_byte text)) (has_line_end-escaped_byte b) (has_line_end-escaped text)

-- ---- parts

abbrev header : Entry → List ℕ
header e = codes "Content-Disposition: form-data; name=\"" ++ escaped e.name ++ codes "\""

header_is_line : (e : Entry) → has_line_end (header e) ≡ false
header_is_line e =
    list_any-append is_newline (codes "Content-Disposition: form-data; name=\"" ++ escaped e.name) (codes "\"")
    ∙ or_from (has_line_end (codes "Content-Disposition: form-data; name=\"" ++ escaped e.name)) false
    (list_any-append is_newline (codes "Content-Disposition: form-data; name=\"") (escaped e.name) ∙ has_line_end-escaped (with_full_newlines e.name)) refl

part_of_lines : (boundary : List ℕ) (e : Entry) (rest : List ℕ)
    → part boundary e ++ rest ≡ delimiter boundary ++ 13 ∷ 10 ∷ (header e ++ 13 ∷ 10 ∷ 13 ∷ 10 ∷ (with_full_newlines e.value ++ 13 ∷ 10 ∷ rest))
part_of_lines boundary e rest = simp append_assoc

-- the delimiter, and what stands behind it in its line
delimiter_delimits : (boundary behind rest : List ℕ) → has_line_end boundary ≡ false → has_line_end behind ≡ false
    → delimiting_lines boundary (delimiter boundary ++ behind ++ 13 ∷ 10 ∷ rest) ≡ (delimiter boundary ++ behind) ∷ delimiting_lines boundary rest
delimiter_delimits boundary behind rest is ends =
    let line = delimiter boundary ++ behind in
    let one : has_line_end line ≡ false =
    list_any-append is_newline (delimiter boundary) behind ∙ or_from (has_line_end (delimiter boundary)) (has_line_end behind) is ends in
    line_delimits boundary line rest one
    ∙ ap (λ t. cond t (line ∷ delimiting_lines boundary rest) (delimiting_lines boundary rest)) (begins_with (delimiter boundary) behind)

delimiter_alone : (boundary rest : List ℕ) → has_line_end boundary ≡ false
    → delimiting_lines boundary (delimiter boundary ++ 13 ∷ 10 ∷ rest) ≡ delimiter boundary ∷ delimiting_lines boundary rest
delimiter_alone boundary rest is =
    let same : delimiter boundary ++ [] ≡ delimiter boundary = append-nil (delimiter boundary) in
    subst (λ line. delimiting_lines boundary (line ++ 13 ∷ 10 ∷ rest) ≡ line ∷ delimiting_lines boundary rest) same
    (delimiter_delimits boundary [] rest is refl)

part_delimits : (boundary : List ℕ) (e : Entry) (rest : List ℕ) → has_line_end boundary ≡ false → occurs boundary e.value ≡ false
    → delimiting_lines boundary (part boundary e ++ rest) ≡ delimiter boundary ∷ delimiting_lines boundary rest
part_delimits boundary e rest is free =
    let value = with_full_newlines e.value ++ 13 ∷ 10 ∷ rest in
    let free_value : occurs boundary (with_full_newlines e.value) ≡ false = occurs-with_full_newlines boundary e.value is ∙ free in
    ap (delimiting_lines boundary) (part_of_lines boundary e rest)
    ∙ (delimiter_alone boundary (header e ++ 13 ∷ 10 ∷ 13 ∷ 10 ∷ value) is
    ∙ ap (λ l. delimiter boundary ∷ l)
    (line_delimits boundary (header e) (13 ∷ 10 ∷ value) (header_is_line e) ∙ text_passes boundary (with_full_newlines e.value) rest free_value))

multipart-cons : (e : Entry) (entries : List Entry) (boundary : List ℕ) → multipart (e ∷ entries) boundary ≡ part boundary e ++ multipart entries boundary
multipart-cons e entries boundary = first_apart (part boundary e) (flat_map (part boundary) entries) (codes "--") boundary (codes "--") newline
  where
    first_apart : (a b c d e f : List ℕ) → a ++ b ++ c ++ d ++ e ++ f ≡ a ++ (b ++ c ++ d ++ e ++ f)
    first_apart a b c d e f = simp append_assoc

pub frame_delimits : (entries : List Entry) (boundary : List ℕ) → has_line_end boundary ≡ false → is_broken_by entries boundary ≡ false
    → delimiting_lines boundary (multipart entries boundary) ≡ map (λ (e : Entry). delimiter boundary) entries ++ (delimiter boundary ++ codes "--") ∷ []
frame_delimits [] boundary is free = delimiter_delimits boundary (codes "--") [] is refl
frame_delimits (e ∷ entries) boundary is free =
    let parts = or_parts (occurs boundary e.name || occurs boundary e.value) (is_broken_by entries boundary) free in
    let value = (or_parts (occurs boundary e.name) (occurs boundary e.value) parts.0).1 in
    ap (delimiting_lines boundary) (multipart-cons e entries boundary)
    ∙ (part_delimits boundary e (multipart entries boundary) is value ∙ ap (λ l. delimiter boundary ∷ l) (frame_delimits entries boundary is parts.1))
