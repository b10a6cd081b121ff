-- A text whose white space is collapsed byte by byte is its words, with one space between them.
use Rattle.std.proofs.Common.{◌≡◌, ℕ, Bool, true, false, not, ◌&&◌, ◌||◌, cond, List, [], ◌∷◌, ◌++◌, refl, arith, ap, ◌∙◌, sym, append-nil}
use Rattle.std.proofs.lemmas.Bool.Decides.{nat_tests}
use Rattle.std.specs.List.{filter, slice_split, onto_first, join_with_byte, list_all}
use Rattle.std.specs.Char.{is_ascii_whitespace}
use Rattle.form_controls.specs.Texts.{collapsed, is_empty}
use Rattle.control_state.specs.Reading.{collapsed_from}

-- the parts that have bytes
abbrev words : List (List ℕ) → List (List ℕ)
words parts = filter (λ word. not (is_empty word)) parts

-- each of them behind a space
abbrev spaced : List (List ℕ) → List ℕ
spaced [] = []
spaced (word ∷ more) = 32 ∷ word ++ spaced more

-- the rest of a word that has begun, and the words after it
abbrev within : List (List ℕ) → List ℕ
within [] = []
within (part ∷ parts) = part ++ spaced (words parts)

-- the parts between white space
abbrev cut : List ℕ → List (List ℕ)
cut text = slice_split is_ascii_whitespace text

join-spaced : (word : List ℕ) (more : List (List ℕ)) → join_with_byte 32 (word ∷ more) ≡ word ++ spaced more
join-spaced word [] = sym (append-nil word)
join-spaced word (next ∷ more) = ap (λ rest. word ++ (32 ∷ rest)) (join-spaced next more)

pub is_empty-cons : (b : ℕ) (bytes : List ℕ) → is_empty (b ∷ bytes) ≡ false
is_empty-cons b bytes = grind (arith, nat_tests)

words-begun : (b : ℕ) (part : List ℕ) (parts : List (List ℕ)) → words ((b ∷ part) ∷ parts) ≡ (b ∷ part) ∷ words parts
words-begun b part parts = ap (λ empty. cond (not empty) ((b ∷ part) ∷ words parts) (words parts)) (is_empty-cons b part)

joined-onto : (b : ℕ) (parts : List (List ℕ)) → join_with_byte 32 (words (onto_first b parts)) ≡ b ∷ within parts
joined-onto b [] = refl
joined-onto b (part ∷ parts) = ap (join_with_byte 32) (words-begun b part parts) ∙ join-spaced (b ∷ part) (words parts)

spaced-onto : (b : ℕ) (parts : List (List ℕ)) → spaced (words (onto_first b parts)) ≡ 32 ∷ b ∷ within parts
spaced-onto b [] = refl
spaced-onto b (part ∷ parts) = ap spaced (words-begun b part parts)

within-onto : (b : ℕ) (parts : List (List ℕ)) → within (onto_first b parts) ≡ b ∷ within parts
within-onto b [] = refl
within-onto b (part ∷ parts) = refl

-- what a reader adds for a text, by what it read before
record Reads (text : List ℕ) : Type 0 where
  begins : (apart : Bool) → collapsed_from false apart text ≡ collapsed text
  goes_apart : collapsed_from true true text ≡ spaced (words (cut text))
  goes_on : collapsed_from true false text ≡ within (cut text)

begins-at : (white apart : Bool) (b : ℕ) (text : List ℕ) → Reads text
    → cond white [] (cond (false && apart) (32 ∷ b ∷ []) (b ∷ [])) ++ collapsed_from (false || not white) white text
    ≡ join_with_byte 32 (words (cond white ([] ∷ cut text) (onto_first b (cut text))))
begins-at true apart b text h = h.begins true
begins-at false apart b text h = ap (λ rest. b ∷ rest) h.goes_on ∙ sym (joined-onto b (cut text))

apart-at : (white : Bool) (b : ℕ) (text : List ℕ) → Reads text
    → cond white [] (32 ∷ b ∷ []) ++ collapsed_from true white text ≡ spaced (words (cond white ([] ∷ cut text) (onto_first b (cut text))))
apart-at true b text h = h.goes_apart
apart-at false b text h = ap (λ rest. 32 ∷ b ∷ rest) h.goes_on ∙ sym (spaced-onto b (cut text))

on-at : (white : Bool) (b : ℕ) (text : List ℕ) → Reads text
    → cond white [] (b ∷ []) ++ collapsed_from true white text ≡ within (cond white ([] ∷ cut text) (onto_first b (cut text)))
on-at true b text h = h.goes_apart
on-at false b text h = ap (λ rest. b ∷ rest) h.goes_on ∙ sym (within-onto b (cut text))

reads : (text : List ℕ) → Reads text
reads [] = record { begins = λ apart. refl; goes_apart = refl; goes_on = refl }
reads (b ∷ text) =
    let h = reads text in
    record {
      begins = λ apart. begins-at (is_ascii_whitespace b) apart b text h;
      goes_apart = apart-at (is_ascii_whitespace b) b text h;
      goes_on = on-at (is_ascii_whitespace b) b text h;
    }

pub collapsed-reads : (text : List ℕ) → collapsed_from false false text ≡ collapsed text
collapsed-reads text = (reads text).begins false

none-at : (white : Bool) (b : ℕ) (text : List ℕ) → is_empty (collapsed_from false white text) ≡ list_all is_ascii_whitespace text
    → is_empty (cond white [] (b ∷ []) ++ collapsed_from (not white) white text) ≡ (white && list_all is_ascii_whitespace text)
none-at true b text h = h
none-at false b text h = is_empty-cons b (collapsed_from true false text)

none-read : (apart : Bool) (text : List ℕ) → is_empty (collapsed_from false apart text) ≡ list_all is_ascii_whitespace text
none-read apart [] = refl
none-read apart (b ∷ text) = none-at (is_ascii_whitespace b) b text (none-read (is_ascii_whitespace b) text)

pub is_empty-collapsed : (text : List ℕ) → is_empty (collapsed text) ≡ list_all is_ascii_whitespace text
is_empty-collapsed text = ap is_empty (sym (collapsed-reads text)) ∙ none-read false text
