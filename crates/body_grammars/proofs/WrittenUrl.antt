-- What is written urlencoded is read back as the list, with its line ends as they are sent.
use Rattle.std.proofs.Common.{◌≡◌, ◌<◌, ℕ, Bool, true, false, List, [], ◌∷◌, ◌++◌, length, refl, sym, ap, subst, ◌∙◌, append_assoc, arith, ◌/◌, ◌%◌, not, ◌||◌}
use Rattle.std.proofs.Common.{map, inl, inr}
use Rattle.std.proofs.lemmas.Bool.{agree_below_at, cond_both, cond-true, eqb-true, lt-ltb}
use Rattle.std.proofs.lemmas.List.Elements.{recursion_from_All}
use Rattle.std.specs.Char.{digit_value}
use Rattle.std.specs.Fmt.{digit_glyph}
use Rattle.std.specs.List.{AllByRecursion, join_with_byte}
use Rattle.std.specs.Prelude.{IsUtf8, All, nat_eq}
use Rattle.percent_encoding.specs.Percent.{percent_encode_byte}
use Rattle.form_urlencoded.specs.Form.{is_unchanged, serialize_byte, byte_serialize, serialize_pair, separator, extend_pairs}
use Rattle.ce_base.specs.Texts.{HasTexts}
use Rattle.ce_base.specs.declared.entries.Entry.{Entry}
use Rattle.form_submission.proofs.Characters.{bytes-IsUtf8}
use Rattle.form_submission.proofs.Texts.{IsUtf8-with_full_newlines}
use Rattle.form_submission.specs.Encodings.{pair_of, urlencoded}
use Rattle.form_submission.specs.LineEnds.{with_full_newlines}
use Rattle.body_grammars.specs.Bodies.{part, is_bare, IsSpelling, Spells, IsPair, ArePairs, UrlText}
use Rattle.body_grammars.specs.Written.{as_sent}
use Rattle.body_grammars.proofs.UrlLaws.{NotEmpty, front_not_empty}

-- ---- a byte as it is written

or_right : (x y : Bool) → (not x || y) ≡ true → x ≡ true → y ≡ true
or_right true y e is = e
or_right false y e is = absurd cc

unchanged_bare : (b : ℕ) → b < 256 → is_unchanged b ≡ true → is_bare b ≡ true
unchanged_bare b small is = or_right (is_unchanged b) (is_bare b) (agree_below_at (λ x. not (is_unchanged x) || is_bare x) (λ _. true) 256 b refl small) is

glyph_value : (d : ℕ) → d < 16 → digit_value (digit_glyph true d) ≡ d
glyph_value d small = eqb-true (digit_value (digit_glyph true d)) d
    (agree_below_at (λ x. nat_eq (digit_value (digit_glyph true x)) x) (λ _. true) 16 d refl small)

percent_spelling : (b : ℕ) → b < 256 → IsSpelling b (percent_encode_byte b)
unfolding percent_encode_byte
percent_spelling b small =
    let high : b / 16 % 16 < 16 = omega arith in
    let low : b % 16 < 16 = omega arith in
    let h = glyph_value (b / 16 % 16) high in
    let l = glyph_value (b % 16) low in
    inr (inr (
      digit_glyph true (b / 16 % 16),
      digit_glyph true (b % 16),
      subst (λ (x : ℕ). x < 16) (sym h) high,
      subst (λ (x : ℕ). x < 16) (sym l) low,
      rw (h, l) (omega arith),
      refl,
    ))

byte_spelling : (b : ℕ) → b < 256 → IsSpelling b (serialize_byte b)
byte_spelling b small =
    cond_both (is_unchanged b) _ _ (IsSpelling b) (λ is. inl (unchanged_bare b small is, refl))
    (λ _. cond_both (nat_eq b 32) _ _ (IsSpelling b) (λ is. inr (inl (eqb-true b 32 is, refl))) (λ _. percent_spelling b small))

bytes_spell : (text : List ℕ) → AllByRecursion (λ b. b < 256) text → Spells text (byte_serialize text)
unfolding byte_serialize
bytes_spell [] are = refl
bytes_spell (b ∷ text) are = (serialize_byte b, byte_serialize text, byte_spelling b are.0, bytes_spell text are.1, refl)

text_spells : (text : List ℕ) → IsUtf8 text → Spells text (byte_serialize text)
text_spells text is = bytes_spell text (recursion_from_All (λ b. b < 256) text (bytes-IsUtf8 text is))

-- ---- pairs

written_pair : (e : Entry) → HasTexts e → IsPair (as_sent e) (serialize_pair (pair_of e))
written_pair e is =
    let name = IsUtf8-with_full_newlines e.name is.0 in
    let value = IsUtf8-with_full_newlines e.value is.1 in
    record {
      name = byte_serialize (with_full_newlines e.name);
      value = byte_serialize (with_full_newlines e.value);
      spells_name = text_spells (with_full_newlines e.name) name;
      spells_value = text_spells (with_full_newlines e.value) value;
      name_utf8 = name;
      value_utf8 = value;
      joined = append_assoc (byte_serialize (with_full_newlines e.name)) (61 ∷ []) (byte_serialize (with_full_newlines e.value));
    }

abbrev written_parts : List Entry → List (List ℕ)
written_parts entries = map (λ (e : Entry). serialize_pair (pair_of e)) entries

written_pairs : (entries : List Entry) → AllByRecursion HasTexts entries → ArePairs (map as_sent entries) (written_parts entries)
written_pairs [] are = refl
written_pairs (e ∷ entries) are = (written_pair e are.0, written_pairs entries are.1)

-- ---- joined by &

end_not_empty : (xs ys : List ℕ) → NotEmpty ys → NotEmpty (xs ++ ys)
end_not_empty [] ys is = is
end_not_empty (x ∷ xs) ys is = tt

written_not_empty : (pair : List ℕ × List ℕ) → NotEmpty (serialize_pair pair)
written_not_empty (name, value) = front_not_empty (byte_serialize name ++ 61 ∷ []) (byte_serialize value) (end_not_empty (byte_serialize name) (61 ∷ []) tt)

joined_some : (form : List ℕ) → NotEmpty form → separator form ≡ 38 ∷ []
joined_some [] is = absurd is
joined_some (b ∷ form) is = cond-true _ _ _ (lt-ltb 0 (length (b ∷ form)) (omega arith))

join_step : (part : List ℕ) (e : Entry) (entries : List Entry)
    → join_with_byte 38 (part ∷ written_parts (e ∷ entries)) ≡ join_with_byte 38 (((part ++ 38 ∷ []) ++ serialize_pair (pair_of e)) ∷ written_parts entries)
join_step part e [] = sym (append_assoc part (38 ∷ []) (serialize_pair (pair_of e)))
join_step part e (f ∷ entries) =
    let tail = 38 ∷ join_with_byte 38 (written_parts (f ∷ entries)) in
    sym (append_assoc (part ++ 38 ∷ []) (serialize_pair (pair_of e)) tail ∙ append_assoc part (38 ∷ []) (serialize_pair (pair_of e) ++ tail))

extended : (form : List ℕ) (entries : List Entry) → NotEmpty form → extend_pairs form (map pair_of entries) ≡ join_with_byte 38 (form ∷ written_parts entries)
extended form [] is = refl
extended form (e ∷ entries) is =
    let next = (form ++ 38 ∷ []) ++ serialize_pair (pair_of e) in
    ap (λ (s : List ℕ). extend_pairs ((form ++ s) ++ serialize_pair (pair_of e)) (map pair_of entries)) (joined_some form is)
    ∙ (extended next entries (end_not_empty (form ++ 38 ∷ []) (serialize_pair (pair_of e)) (written_not_empty (pair_of e))) ∙ sym (join_step form e entries))

back_by_recursion : (entries : List Entry) → AllByRecursion HasTexts entries → UrlText (map as_sent entries) (urlencoded entries)
back_by_recursion [] are = refl
back_by_recursion (e ∷ entries) are =
    (written_parts (e ∷ entries), written_pairs (e ∷ entries) are, extended (serialize_pair (pair_of e)) entries (written_not_empty (pair_of e)))

pub urlencoded_back : (entries : List Entry) → All HasTexts entries → UrlText (map as_sent entries) (urlencoded entries)
urlencoded_back entries are = back_by_recursion entries (recursion_from_All HasTexts entries are)
