-- A urlencoded body is read to the list for which the relation holds, and no other.
use Rattle.std.proofs.Common.{◌≡◌, ℕ, List, [], ◌∷◌, ◌++◌, Option, Some, None, Result, Ok, Err, refl, sym, ap, subst, ◌∙◌}
use Rattle.std.proofs.lemmas.List.Splits.{join_with_byte-slice_split}
use Rattle.std.proofs.lemmas.Option.{same_Some}
use Rattle.std.proofs.lemmas.Str.{is_utf8-from_IsUtf8}
use Rattle.std.specs.List.{join_with_byte, slice_split}
use Rattle.std.specs.Prelude.{IsUtf8}
use Rattle.std.specs.Str.{is_utf8}
use Rattle.ce_base.specs.declared.entries.Entry.{Entry}
use Rattle.body_grammars.specs.Bodies.{part, Spells, IsPair, ArePairs, UrlText}
use Rattle.body_grammars.specs.Cuts.{behind, cut_at, is_byte}
use Rattle.body_grammars.specs.Escapes.{read_text, then_utf8, unspell}
use Rattle.body_grammars.specs.Gives.{Gives}
use Rattle.body_grammars.specs.ReadUrl.{read_cut, read_pair, read_pairs, read_parts, urlencoded_entries}
use Rattle.body_grammars.specs.Reads.{Reads}
use Rattle.body_grammars.specs.declared.refused.BodyRefused.{BodyRefused}
use Rattle.body_grammars.specs.declared.refused.BodyRefused.TheVariants.{NotABody, NoMemory}
use Rattle.body_grammars.specs.declared.spelled.InEscape.TheVariants.{Outside}
use Rattle.body_grammars.proofs.CutLaws.{Free, free_both, cut_again, Joined, cut_joined}
use Rattle.body_grammars.proofs.GivesLaws.{one_some, utf8_some, paired_some}
use Rattle.body_grammars.proofs.SpelledLaws.{spelled_said, said_again, spelled_free}
use Rattle.body_grammars.proofs.SplitLaws.{split_free, split_at}

-- ---- names and values

then_some : (o : Option (List ℕ)) (text : List ℕ) → then_utf8 o ≡ Some text → (o ≡ Some text) × IsUtf8 text
then_some None text e = absurd cc
then_some (Some bytes) text e = let is = utf8_some bytes text (is_utf8 bytes) refl e in (ap Some is.0, is.1)

text_said : (bytes text : List ℕ) → read_text bytes ≡ Some text → Spells text bytes × IsUtf8 text
text_said bytes text e = let is = then_some (unspell bytes Outside) text e in (spelled_said bytes Outside text is.0, is.1)

text_again : (bytes text : List ℕ) → Spells text bytes → IsUtf8 text → read_text bytes ≡ Some text
text_again bytes text spells utf8 = rw (said_again text bytes spells, is_utf8-from_IsUtf8 text utf8) refl

-- ---- pairs

pair_cut : (part : List ℕ) (o : Option (List ℕ × List ℕ)) (e : Entry) → Joined 61 part o → read_cut o ≡ Some e → IsPair e part
pair_cut part None e joined is = absurd cc
pair_cut part (Some (name, value)) e joined is =
    let both = paired_some (read_text name) (read_text value) e is in
    let n = text_said name e.name both.0 in
    let v = text_said value e.value both.1 in
    record { name = name; value = value; spells_name = n.0; spells_value = v.0; name_utf8 = n.1; value_utf8 = v.1; joined = joined }

pair_said : (part : List ℕ) (e : Entry) → read_pair part ≡ Some e → IsPair e part
pair_said part e is = pair_cut part (cut_at 61 part) e (cut_joined 61 part) is

pair_again : (part : List ℕ) (e : Entry) → IsPair e part → read_pair part ≡ Some e
pair_again part e p =
    rw (
      p.joined,
      cut_again 61 p.name p.value (spelled_free e.name p.name p.spells_name).1,
      text_again p.name e.name p.spells_name p.name_utf8,
      text_again p.value e.value p.spells_value p.value_utf8,
    ) refl

pairs_said : (parts : List (List ℕ)) (list : List Entry) → read_pairs parts ≡ Some list → ArePairs list parts
pairs_said [] list is = let e : [] ≡ list = (cc) in subst (λ (l : List Entry). ArePairs l []) e refl
pairs_said (part ∷ parts) list is =
    let (e, rest, is_e, is_rest, joined) = one_some (read_pair part) (read_pairs parts) list is in
    subst (λ (l : List Entry). ArePairs l (part ∷ parts)) (sym joined) (pair_said part e is_e, pairs_said parts rest is_rest)

pairs_again : (list : List Entry) (parts : List (List ℕ)) → ArePairs list parts → read_pairs parts ≡ Some list
pairs_again [] parts e = rw e refl
pairs_again (e ∷ list) [] are = absurd are
pairs_again (e ∷ list) (part ∷ parts) are = rw (pair_again part e are.0, pairs_again list parts are.1) refl

-- ---- parts between &

pair_free : (e : Entry) (part : List ℕ) → IsPair e part → Free 38 part
pair_free e part p = subst (λ (l : List ℕ). Free 38 l) (sym p.joined)
    (free_both 38 p.name (61 ∷ p.value) (spelled_free e.name p.name p.spells_name).0 (refl, (spelled_free e.value p.value p.spells_value).0))

split_again : (e : Entry) (list : List Entry) (parts : List (List ℕ)) → ArePairs (e ∷ list) parts → slice_split (is_byte 38) (join_with_byte 38 parts) ≡ parts
split_again e list [] are = absurd are
split_again e [] (part ∷ []) are = split_free 38 part (pair_free e part are.0)
split_again e [] (part ∷ next ∷ parts) are = absurd cc
split_again e (f ∷ list) (part ∷ []) are = absurd are.1
split_again e (f ∷ list) (part ∷ next ∷ parts) are =
    split_at 38 part (join_with_byte 38 (next ∷ parts)) (pair_free e part are.0)
    ∙ ap (λ (l : List (List ℕ)). part ∷ l) (split_again f list (next ∷ parts) are.1)

-- ---- bodies

url_parts : (list : List Entry) (b : ℕ) (bytes : List ℕ) → ArePairs list (slice_split (is_byte 38) (b ∷ bytes)) → UrlText list (b ∷ bytes)
url_parts [] b bytes are =
    let whole : b ∷ bytes ≡ [] = sym (join_with_byte-slice_split 38 (b ∷ bytes)) ∙ ap (join_with_byte 38) are in
    absurd cc
url_parts (e ∷ list) b bytes are = (slice_split (is_byte 38) (b ∷ bytes), are, sym (join_with_byte-slice_split 38 (b ∷ bytes)))

url_said : (bytes : List ℕ) (list : List Entry) → urlencoded_entries bytes ≡ Some list → UrlText list bytes
unfolding read_parts
url_said [] list is = let e : [] ≡ list = (cc) in subst (λ (l : List Entry). UrlText l []) e refl
url_said (b ∷ bytes) list is = url_parts list b bytes (pairs_said (slice_split (is_byte 38) (b ∷ bytes)) list is)

abbrev pub NotEmpty : List ℕ → Type 0
NotEmpty [] = ⊥
NotEmpty (b ∷ bytes) = Unit {0}

not_empty_before : (before : List ℕ) (b : ℕ) (behind : List ℕ) → NotEmpty (before ++ b ∷ behind)
not_empty_before [] b behind = tt
not_empty_before (x ∷ before) b behind = tt

pub front_not_empty : (xs ys : List ℕ) → NotEmpty xs → NotEmpty (xs ++ ys)
front_not_empty [] ys is = absurd is
front_not_empty (x ∷ xs) ys is = tt

pair_not_empty : (e : Entry) (part : List ℕ) → IsPair e part → NotEmpty part
pair_not_empty e part p = subst NotEmpty (sym p.joined) (not_empty_before p.name 61 p.value)

pairs_not_empty : (e : Entry) (list : List Entry) (parts : List (List ℕ)) → ArePairs (e ∷ list) parts → NotEmpty (join_with_byte 38 parts)
pairs_not_empty e list [] are = absurd are
pairs_not_empty e list (part ∷ []) are = pair_not_empty e part are.0
pairs_not_empty e list (part ∷ next ∷ parts) are = front_not_empty part (38 ∷ join_with_byte 38 (next ∷ parts)) (pair_not_empty e part are.0)

url_is_parts : (bytes : List ℕ) → NotEmpty bytes → urlencoded_entries bytes ≡ read_parts bytes
url_is_parts [] is = absurd is
url_is_parts (b ∷ bytes) is = refl

url_again : (list : List Entry) (bytes : List ℕ) → UrlText list bytes → urlencoded_entries bytes ≡ Some list
unfolding read_parts
url_again [] bytes e = rw e refl
url_again (e ∷ list) bytes (parts, are, joined) =
    ap urlencoded_entries joined
    ∙ (url_is_parts (join_with_byte 38 parts) (pairs_not_empty e list parts are)
    ∙ (ap read_pairs (split_again e list parts are) ∙ pairs_again (e ∷ list) parts are))

-- ---- the calls

no_url : (bytes : List ℕ) (list : List Entry) → urlencoded_entries bytes ≡ None → UrlText list bytes → ⊥
no_url bytes list none is = let both : None ≡ Some list = sym none ∙ url_again list bytes is in absurd cc

pub url_reads : (r : Result (List Entry) BodyRefused) (bytes : List ℕ) → Gives r (urlencoded_entries bytes)
    → Reads (λ (list : List Entry). UrlText list bytes) r
url_reads (Ok list) bytes gives = url_said bytes list gives
url_reads (Err NotABody) bytes gives = λ list is. no_url bytes list gives is
url_reads (Err NoMemory) bytes gives = tt

pub url_one : (bytes : List ℕ) (a b : List Entry) → UrlText a bytes → UrlText b bytes → a ≡ b
url_one bytes a b one two = same_Some a b (sym (url_again a bytes one) ∙ url_again b bytes two)
