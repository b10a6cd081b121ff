-- What tokens spell is spelled by its canonical tokens too.
use Rattle.std.proofs.Common.{◌≡◌, ◌≤◌, ℕ, zero, suc, length, arith, Bool, true, false, cond, not, ◌&&◌, List, [], ◌∷◌, ◌++◌, Option, Some, None, refl, sym, ap}
use Rattle.std.proofs.Common.{subst, ◌⊎◌, inl, inr}
use Rattle.std.specs.List.{list_any}
use Rattle.std.specs.Str.{bytes_eq}
use Rattle.std.proofs.lemmas.Slice.Eq.{bytes_eq-Decides}
use Rattle.rule_tokens.specs.declared.token.Token.{Token}
use Rattle.rule_tokens.specs.OperandForms.{is_word}
use Rattle.rule_lines.proofs.OwnLaws.{FlagsAgain, own}
use Rattle.rule_lines.specs.declared.read_as.Kind.{Kind}
use Rattle.rule_lines.specs.declared.read_as.ReadAs.{ReadAs}
use Rattle.rule_lines.specs.declared.read_as.ReadAs.TheVariants as read_as
use Rattle.rule_lines.specs.declared.keyword.Keyword.{Keyword}
use Rattle.rule_lines.specs.declared.word.Word.{Word}
use Rattle.rule_lines.specs.Canon.{bare, tokens_of, keyed, all_tokens, keys_tokens, is_read_as_word, canon, canon_row, canon_within, canon_tokens}
use Rattle.rule_lines.specs.Grammar.{Key, Wants, End, One, Pick, Keys, Maybe, Many, Pairs, Inner, Rows, LastRow, Row}
use Rattle.rule_lines.specs.Rows.{forms}
use Rattle.rule_lines.specs.Whole.{either}
use Rattle.rule_lines.specs.FixedWords.{keyword, spelling}
use Rattle.rule_lines.specs.Spells.{Spelling, SpellNothing, SpellOne, SpellMarked, SpellBehind, SpellKeys, SpellMaybe, SpellMany, SpellPairs, Spell, SpellRow}
use Rattle.rule_lines.specs.Spells.{SpellWithin, Spelled}
use Rattle.rule_lines.proofs.Either.{to_first, to_second}
use Rattle.std.proofs.lemmas.Bool.{and_parts, or_parts, not-true}

-- ---- words

same_bytes : (s : List ℕ) → bytes_eq s s ≡ true
same_bytes s = (bytes_eq-Decides s s).1 refl

word_again : (s : List ℕ) → is_word s (bare s) ≡ true
word_again s = same_bytes s

word_token : (s : List ℕ) (t : Token) → is_word s t ≡ true → t ≡ bare s
word_token s t e = by t.quoted t.text e
  where
    by : (q : Bool) (text : List ℕ) → (not q && bytes_eq text s) ≡ true → record { quoted = q; text = text } ≡ bare s
    by true text e = absurd cc
    by false text e = ap bare ((bytes_eq-Decides text s).0 e)

-- ---- an operand

one_again : FlagsAgain → (kind : Kind) (Rest : Spelling) (ts us : List Token) (g : ReadAs) (gs : List ReadAs) → SpellOne kind Rest ts (g ∷ gs)
    → ((ts : List Token) → Rest ts gs → Rest us gs) → SpellOne kind Rest (tokens_of g ++ us) (g ∷ gs)
one_again again kind Rest [] us g gs spelled rest = absurd spelled
one_again again kind Rest (t ∷ ts) us g gs spelled rest = let o = own again kind t g spelled.0 in rw (o.alone) (o.said, rest ts spelled.1)

one_none : (kind : Kind) (Rest : Spelling) (ts : List Token) → SpellOne kind Rest ts [] → ⊥
one_none kind Rest [] spelled = spelled
one_none kind Rest (t ∷ ts) spelled = spelled

-- ---- optional parts

-- the first of the tokens is this word
abbrev begins : List ℕ → List Token → Bool
begins word [] = false
begins word (t ∷ ts) = is_word word t

-- one of the keys has this word
abbrev named : List ℕ → List Key → Bool
named word keys = list_any (λ (key : Key). bytes_eq (keyword key.word) word) keys

-- no two keys have one word
abbrev keys_apart : List Key → Bool
keys_apart [] = true
keys_apart (key ∷ keys) = not (named (keyword key.word) keys) && keys_apart keys

keyed_first : (word : Keyword) (g : ReadAs) → (keyed word g ≡ []) ⊎ ((ts : List Token) × (keyed word g ≡ bare (keyword word) ∷ ts))
keyed_first word (read_as.Variable v) = inr (_, refl)
keyed_first word (read_as.Node place) = inr (_, refl)
keyed_first word (read_as.Class name) = inr (_, refl)
keyed_first word (read_as.Chars text) = inr (_, refl)
keyed_first word (read_as.Value val) = inr (_, refl)
keyed_first word (read_as.Flags raised) = inr (_, refl)
keyed_first word (read_as.Callback call) = inr (_, refl)
keyed_first word (read_as.Word read) = inr (_, refl)
keyed_first word read_as.There = inr (_, refl)
keyed_first word read_as.NotThere = inl refl

not_next : (word : List ℕ) (keys : List Key) (gs : List ReadAs) → named word keys ≡ false → begins word (keys_tokens keys gs) ≡ false
not_next word [] gs e = refl
not_next word (key ∷ keys) [] e = refl
not_next word (key ∷ keys) (g ∷ gs) e = let both = or_parts _ _ e in by both.0 (not_next word keys gs both.1) (keyed_first key.word g)
  where
    by : bytes_eq (keyword key.word) word ≡ false → begins word (keys_tokens keys gs) ≡ false
        → (keyed key.word g ≡ []) ⊎ ((ts : List Token) × (keyed key.word g ≡ bare (keyword key.word) ∷ ts))
        → begins word (keyed key.word g ++ keys_tokens keys gs) ≡ false
    by first others (inl is) = rw is others
    by first others (inr (ts, is)) = rw is first

key_skipped : (key : Key) (keys : List Key) (us : List Token) (gs : List ReadAs) → begins (keyword key.word) us ≡ false → SpellKeys keys us gs
    → SpellKeys (key ∷ keys) us (read_as.NotThere ∷ gs)
key_skipped key keys [] gs e spelled = (refl, spelled)
key_skipped key keys (u ∷ us) gs e spelled = to_second (is_word (keyword key.word) u) _ _ e (refl, spelled)

key_taken : FlagsAgain → (key : Key) (keys : List Key) (operand : Option Kind) → key.operand ≡ operand → (ts : List Token) (g : ReadAs) (gs : List ReadAs)
    → SpellBehind operand (SpellKeys keys) ts (g ∷ gs)
    → ((ts : List Token) → SpellKeys keys ts gs → SpellKeys keys (keys_tokens keys gs) gs) → SpellKeys (key ∷ keys) (keys_tokens (key ∷ keys) (g ∷ gs)) (g ∷ gs)
key_taken again key keys None is ts g gs spelled rest = subst (λ (x : ReadAs). SpellKeys (key ∷ keys) (keys_tokens (key ∷ keys) (x ∷ gs)) (x ∷ gs)) spelled.0
    (to_first (is_word (keyword key.word) (bare (keyword key.word))) _ _ (word_again (keyword key.word))
    (subst (λ (o : Option Kind). SpellBehind o (SpellKeys keys) (keys_tokens keys gs) (read_as.There ∷ gs)) (sym is) (refl, rest ts spelled.1)))
key_taken again key keys (Some kind) is [] g gs spelled rest = absurd spelled
key_taken again key keys (Some kind) is (t ∷ ts) g gs spelled rest = let o = own again kind t g spelled.0 in rw (o.behind key.word)
    (to_first (is_word (keyword key.word) (bare (keyword key.word))) _ _ (word_again (keyword key.word))
    (subst (λ (k : Option Kind). SpellBehind k (SpellKeys keys) (o.token ∷ keys_tokens keys gs) (g ∷ gs)) (sym is) (o.said, rest ts spelled.1)))

none_again : (ts : List Token) (gs : List ReadAs) → SpellNothing ts gs → SpellNothing [] gs
none_again [] gs spelled = spelled
none_again (t ∷ ts) gs spelled = absurd spelled

behind_none : (operand : Option Kind) (Rest : Spelling) (ts : List Token) → SpellBehind operand Rest ts [] → ⊥
behind_none None Rest ts spelled = spelled
behind_none (Some kind) Rest ts spelled = one_none kind Rest ts spelled

nothing_again : (ts : List Token) (gs : List ReadAs) → SpellNothing ts gs → SpellNothing (all_tokens gs) gs
nothing_again [] [] spelled = tt
nothing_again [] (g ∷ gs) spelled = absurd spelled
nothing_again (t ∷ ts) gs spelled = absurd spelled

key_again : FlagsAgain → (key : Key) (keys : List Key) → named (keyword key.word) keys ≡ false → (ts : List Token) (g : ReadAs) (gs : List ReadAs)
    → ((ts : List Token) → SpellKeys keys ts gs → SpellKeys keys (keys_tokens keys gs) gs)
    → SpellKeys (key ∷ keys) ts (g ∷ gs) → SpellKeys (key ∷ keys) (keys_tokens (key ∷ keys) (g ∷ gs)) (g ∷ gs)
key_again again key keys other ts g gs rest spelled = at ts spelled
  where
    skip : (ts : List Token) → (read_as.NotThere ≡ g) × SpellKeys keys ts gs → SpellKeys (key ∷ keys) (keys_tokens (key ∷ keys) (g ∷ gs)) (g ∷ gs)
    skip ts spelled = subst (λ (x : ReadAs). SpellKeys (key ∷ keys) (keys_tokens (key ∷ keys) (x ∷ gs)) (x ∷ gs)) spelled.0
        (key_skipped key keys (keys_tokens keys gs) gs (not_next (keyword key.word) keys gs other) (rest ts spelled.1))

    at : (ts : List Token) → SpellKeys (key ∷ keys) ts (g ∷ gs) → SpellKeys (key ∷ keys) (keys_tokens (key ∷ keys) (g ∷ gs)) (g ∷ gs)
    at [] spelled = skip [] spelled
    at (t ∷ ts) spelled = by (is_word (keyword key.word) t) spelled
      where
        by : (b : Bool) → either b (SpellBehind key.operand (SpellKeys keys) ts (g ∷ gs)) (SpellMarked read_as.NotThere (SpellKeys keys) (t ∷ ts) (g ∷ gs))
            → SpellKeys (key ∷ keys) (keys_tokens (key ∷ keys) (g ∷ gs)) (g ∷ gs)
        by true spelled = key_taken again key keys key.operand refl ts g gs spelled rest
        by false spelled = skip (t ∷ ts) spelled

keys_again : FlagsAgain → (keys : List Key) → keys_apart keys ≡ true → (ts : List Token) (gs : List ReadAs) → SpellKeys keys ts gs
    → SpellKeys keys (keys_tokens keys gs) gs
keys_again again [] apart ts gs spelled = none_again ts gs spelled
keys_again again (key ∷ keys) apart ts [] spelled = absurd (none ts spelled)
  where
    none : (ts : List Token) → SpellKeys (key ∷ keys) ts [] → ⊥
    none [] spelled = spelled
    none (t ∷ ts) spelled = by (is_word (keyword key.word) t) spelled
      where
        by : (b : Bool) → either b (SpellBehind key.operand (SpellKeys keys) ts []) ⊥ → ⊥
        by true spelled = behind_none key.operand (SpellKeys keys) ts spelled
        by false spelled = spelled
keys_again again (key ∷ keys) apart ts (g ∷ gs) spelled =
    let both = and_parts (not (named (keyword key.word) keys)) (keys_apart keys) apart in
    key_again again key keys (not-true _ both.0) ts g gs (λ us more. keys_again again keys both.1 us gs more) spelled

-- ---- one operand, many, and pairs

maybe_again : FlagsAgain → (kind : Kind) (ts : List Token) (gs : List ReadAs) → SpellMaybe kind ts gs → SpellMaybe kind (all_tokens gs) gs
maybe_again again kind [] [] spelled = absurd spelled
maybe_again again kind (t ∷ ts) [] spelled = absurd spelled
maybe_again again kind [] (g ∷ gs) spelled = subst (λ (x : ReadAs). SpellMaybe kind (tokens_of x ++ all_tokens gs) (x ∷ gs)) spelled.0 (none gs spelled.1)
  where
    none : (gs : List ReadAs) → SpellNothing [] gs → SpellMaybe kind (all_tokens gs) (read_as.NotThere ∷ gs)
    none [] more = (refl, tt)
    none (h ∷ gs) more = absurd more
maybe_again again kind (t ∷ ts) (g ∷ gs) spelled = let o = own again kind t g spelled.0 in rw o.alone (o.said, nothing_again ts gs spelled.1)

many_again : FlagsAgain → (n : ℕ) (kind : Kind) (ts : List Token) (gs : List ReadAs) → SpellMany n kind ts gs → SpellMany n kind (all_tokens gs) gs
many_again again n kind [] [] spelled = many_none n
  where
    many_none : (n : ℕ) → SpellMany n kind [] []
    many_none zero = tt
    many_none (suc n) = tt
many_again again zero kind [] (g ∷ gs) spelled = absurd spelled
many_again again (suc n) kind [] (g ∷ gs) spelled = absurd spelled
many_again again zero kind (t ∷ ts) gs spelled = absurd spelled
many_again again (suc n) kind (t ∷ ts) [] spelled = absurd spelled
many_again again (suc n) kind (t ∷ ts) (g ∷ gs) spelled = let o = own again kind t g spelled.0 in rw o.alone (o.said, many_again again n kind ts gs spelled.1)

pairs_again : FlagsAgain → (n : ℕ) (kind : Kind) (ts : List Token) (gs : List ReadAs) → SpellPairs n kind ts gs → SpellPairs n kind (all_tokens gs) gs
pairs_again again zero kind [] [] spelled = tt
pairs_again again (suc n) kind [] [] spelled = tt
pairs_again again zero kind [] (g ∷ gs) spelled = absurd spelled
pairs_again again (suc n) kind [] (g ∷ gs) spelled = absurd spelled
pairs_again again zero kind (t ∷ ts) gs spelled = absurd spelled
pairs_again again (suc n) kind (t ∷ ts) [] spelled = absurd spelled
pairs_again again (suc n) kind (t ∷ ts) (g ∷ []) spelled = absurd (one_none kind (SpellPairs n kind) ts spelled.1)
pairs_again again (suc n) kind (t ∷ []) (g ∷ h ∷ gs) spelled = absurd spelled.1
pairs_again again (suc n) kind (t ∷ u ∷ ts) (g ∷ h ∷ gs) spelled =
    let one = own again kind t g spelled.0 in
    let two = own again kind u h spelled.1.0 in
    rw (one.alone, two.alone) (one.said, (two.said, pairs_again again n kind ts gs spelled.1.1))

-- ---- what is wanted

-- in what is wanted no two keys of a row have one word
abbrev mutual
  apart : Wants → Bool
  apart End = true
  apart (One kind more) = apart more
  apart (Pick rows) = rows_apart rows
  apart (Keys keys) = keys_apart keys
  apart (Maybe kind) = true
  apart (Many n kind) = true
  apart (Pairs n kind) = true
  apart Inner = true

  rows_apart : Rows → Bool
  rows_apart (LastRow word wants) = apart wants
  rows_apart (Row word wants rows) = apart wants && rows_apart rows

-- an action of so much at most is spelled by its canonical tokens
abbrev SpelledAgain : ℕ → Spelling → (List ReadAs → List Token) → Type 0
SpelledAgain n Action action = (ts : List Token) (gs : List ReadAs) → length gs ≤ n → Action ts gs → Action (action gs) gs

-- a row is spelled behind the word that it was spelled behind
record RowAgain (Action : Spelling) (action : List ReadAs → List Token) (rows : Rows) (t : Token) (g : ReadAs) (gs : List ReadAs) : Type 0 where
  pub word : Word
  pub got : g ≡ read_as.Word word
  pub spelling_is : t ≡ bare (spelling word)
  pub others : List Token
  pub tokens : canon_row action rows g gs ≡ t ∷ others
  pub spelled : SpellRow Action rows t others (g ∷ gs)

other_word : (word read : Word) (t : Token) → t ≡ bare (spelling read) → is_word (spelling word) t ≡ false → is_read_as_word word (read_as.Word read) ≡ false
other_word word read t is e = subst (λ (u : Token). is_word (spelling word) u ≡ false) is e

either_none : (b : Bool) (X Y : Type 0) → (X → ⊥) → (Y → ⊥) → either b X Y → ⊥
either_none true X Y one two e = one e
either_none false X Y one two e = two e

row_none : (Action : Spelling) (rows : Rows) (t : Token) (ts : List Token) → SpellRow Action rows t ts [] → ⊥
row_none Action (LastRow word wants) t ts spelled = either_none (is_word (spelling word) t) _ _ (λ x. x) (λ x. x) spelled
row_none Action (Row word wants rows) t ts spelled = either_none (is_word (spelling word) t) _ _ (λ x. x) (λ x. row_none Action rows t ts x) spelled

fewer_read : (g : ReadAs) (gs : List ReadAs) (n : ℕ) → length (g ∷ gs) ≤ n → length gs ≤ n
fewer_read g gs n small = omega (arith, small)

mutual
  wants_again : FlagsAgain → (Action : Spelling) (action : List ReadAs → List Token) (n : ℕ) → SpelledAgain n Action action → (wants : Wants)
      → apart wants ≡ true → (ts : List Token) (gs : List ReadAs) → length gs ≤ n → Spell Action wants ts gs → Spell Action wants (canon action wants gs) gs
  wants_again again Action action n is End ok ts gs small spelled = nothing_again ts gs spelled
  wants_again again Action action n is (One kind more) ok ts [] small spelled = absurd (one_none kind (Spell Action more) ts spelled)
  wants_again again Action action n is (One kind more) ok ts (g ∷ gs) small spelled =
      one_again again kind (Spell Action more) ts (canon action more gs) g gs spelled
      (λ us rest. wants_again again Action action n is more ok us gs (fewer_read g gs n small) rest)
  wants_again again Action action n is (Pick rows) ok [] gs small spelled = absurd spelled
  wants_again again Action action n is (Pick rows) ok (t ∷ ts) [] small spelled = absurd (row_none Action rows t ts spelled)
  wants_again again Action action n is (Pick rows) ok (t ∷ ts) (g ∷ gs) small spelled =
      let r = row_again again Action action n is rows ok t ts g gs (fewer_read g gs n small) spelled in rw r.tokens r.spelled
  wants_again again Action action n is (Keys keys) ok ts gs small spelled = keys_again again keys ok ts gs spelled
  wants_again again Action action n is (Maybe kind) ok ts gs small spelled = maybe_again again kind ts gs spelled
  wants_again again Action action n is (Many k kind) ok ts gs small spelled = many_again again k kind ts gs spelled
  wants_again again Action action n is (Pairs k kind) ok ts gs small spelled = pairs_again again k kind ts gs spelled
  wants_again again Action action n is Inner ok ts gs small spelled = is ts gs small spelled

  row_again : FlagsAgain → (Action : Spelling) (action : List ReadAs → List Token) (n : ℕ) → SpelledAgain n Action action → (rows : Rows)
      → rows_apart rows ≡ true → (t : Token) (ts : List Token) (g : ReadAs) (gs : List ReadAs) → length gs ≤ n → SpellRow Action rows t ts (g ∷ gs)
      → RowAgain Action action rows t g gs
  row_again again Action action n is (LastRow word wants) ok t ts g gs small spelled =
      by (is_word (spelling word) t) refl (λ rest. wants_again again Action action n is wants ok ts gs small rest) spelled
    where
      by : (b : Bool) → is_word (spelling word) t ≡ b → (Spell Action wants ts gs → Spell Action wants (canon action wants gs) gs)
          → either b (SpellMarked (read_as.Word word) (Spell Action wants) ts (g ∷ gs)) ⊥ → RowAgain Action action (LastRow word wants) t g gs
      by true is_it more spelled = record {
        word = word;
        got = sym spelled.0;
        spelling_is = word_token (spelling word) t is_it;
        others = canon action wants gs;
        tokens = rw (sym spelled.0, word_token (spelling word) t is_it) refl;
        spelled = to_first (is_word (spelling word) t) _ _ is_it (spelled.0, more spelled.1);
      }
      by false is_it more spelled = absurd spelled
  row_again again Action action n is (Row word wants rows) ok t ts g gs small spelled =
      let both = and_parts (apart wants) (rows_apart rows) ok in
      by (is_word (spelling word) t) refl (λ rest. wants_again again Action action n is wants both.0 ts gs small rest)
      (λ rest. row_again again Action action n is rows both.1 t ts g gs small rest) spelled
    where
      by : (b : Bool) → is_word (spelling word) t ≡ b → (Spell Action wants ts gs → Spell Action wants (canon action wants gs) gs)
          → (SpellRow Action rows t ts (g ∷ gs) → RowAgain Action action rows t g gs)
          → either b (SpellMarked (read_as.Word word) (Spell Action wants) ts (g ∷ gs)) (SpellRow Action rows t ts (g ∷ gs))
          → RowAgain Action action (Row word wants rows) t g gs
      by true is_it more others spelled = record {
        word = word;
        got = sym spelled.0;
        spelling_is = word_token (spelling word) t is_it;
        others = canon action wants gs;
        tokens = rw (sym spelled.0, same_bytes (spelling word), word_token (spelling word) t is_it) refl;
        spelled = to_first (is_word (spelling word) t) _ _ is_it (spelled.0, more spelled.1);
      }
      by false is_it more others spelled = let r = others spelled in record {
        word = r.word;
        got = r.got;
        spelling_is = r.spelling_is;
        others = r.others;
        tokens = subst (λ (b : Bool). cond b (tokens_of g ++ canon action wants gs) (canon_row action rows g gs) ≡ t ∷ r.others)
            (sym (subst (λ (x : ReadAs). is_read_as_word word x ≡ false) (sym r.got) (other_word word r.word t r.spelling_is is_it))) r.tokens;
        spelled = to_second (is_word (spelling word) t) _ _ is_it r.spelled;
      }

forms_apart : rows_apart forms ≡ true
forms_apart = refl

within_again : FlagsAgain → (depth n : ℕ) (ts : List Token) (gs : List ReadAs) → length gs ≤ n → SpellWithin depth ts gs
    → SpellWithin depth (canon_within n gs) gs
within_again again zero n ts gs small spelled = absurd spelled
within_again again (suc depth) n [] gs small spelled = absurd spelled
within_again again (suc depth) n (t ∷ ts) [] small spelled = absurd (row_none (SpellWithin depth) forms t ts spelled)
within_again again (suc depth) zero (t ∷ ts) (g ∷ gs) small spelled = absurd (omega (arith, small))
within_again again (suc depth) (suc n) (t ∷ ts) (g ∷ gs) small spelled =
    let r = row_again again (SpellWithin depth) (canon_within n) n (λ us hs few inner. within_again again depth n us hs few inner) forms forms_apart t ts g gs
    (omega (arith, small)) spelled in rw r.tokens r.spelled

pub spelled_again : FlagsAgain → (ts : List Token) (gs : List ReadAs) → Spelled ts gs → Spelled (canon_tokens gs) gs
spelled_again again ts gs (depth, spelled) = (depth, within_again again depth (length gs) ts gs (omega arith) spelled)
