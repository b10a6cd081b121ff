-- What a reading answers is the case that holds.
use Rattle.std.proofs.Common.{◌≡◌, ◌<◌, ℕ, zero, suc, length, arith, Bool, true, false, cond, ◌||◌, List, [], ◌∷◌, ◌++◌, Option, Some, None, Ok, Err, refl, sym}
use Rattle.std.proofs.Common.{ap, ◌∙◌, inl, inr}
use Rattle.std.specs.Prelude.{codes}
use Rattle.std.proofs.lemmas.Slice.Eq.{bytes_eq-Decides}
use Rattle.rule_tokens.specs.declared.refused.Bad.TheVariants.{Long, Utf8, Quote, Escape, Word as BadWord, Arity, Place}
use Rattle.rule_tokens.specs.declared.token.Token.{Token}
use Rattle.rule_tokens.specs.Gives.{with_front}
use Rattle.rule_tokens.specs.OperandForms.{is_word}
use Rattle.rule_lines.specs.declared.read_as.Kind.{Kind}
use Rattle.rule_lines.specs.declared.read_as.Kind.TheVariants as kinds
use Rattle.rule_lines.specs.declared.read_as.ReadAs.{ReadAs}
use Rattle.rule_lines.specs.declared.read_as.ReadAs.TheVariants as read_as
use Rattle.rule_lines.specs.declared.keyword.Keyword.{Keyword}
use Rattle.rule_lines.specs.declared.keyword.Keyword.TheVariants as keywords
use Rattle.rule_lines.specs.declared.word.Word.{Word}
use Rattle.rule_lines.specs.FixedWords.{keyword, spelling}
use Rattle.rule_lines.specs.Grammar.{said_as, Key, Wants, End, One, Pick, Keys, Maybe, Many, Pairs, Inner, Rows, LastRow, Row}
use Rattle.rule_lines.specs.Read.{Reads, then_read_as, behind_key, read_keys, read_maybe, read_many, read_pairs, read, read_row}
use Rattle.rule_lines.specs.Whole.{Fits, BehindKey, WholeKeys, WholeMaybe, WholeMany, WholePairs, Whole, WholeRow, Begins, is_keyword, WantsOperand}
use Rattle.rule_lines.specs.Whole.{HasWrongWord, HasOneOver, HasWrongNumber}
use Rattle.rule_lines.proofs.Either.{first_of, to_first, second_of, to_second}
use Rattle.std.proofs.lemmas.Bool.{or_left, or_right}
use Rattle.rule_lines.proofs.Behind.{Says, Behind, says_behind, says_front, says_more}

-- ---- at the first token

wrong_first : (L : List Token → Type 0) (t : Token) (ts : List Token) → Begins L [] → WantsOperand L [] → (Begins L (t ∷ []) → ⊥) → HasWrongWord L (t ∷ ts)
wrong_first L t ts begins wants unfit = record { before = []; token = t; rest = ts; tokens_are = refl; begins = begins; wants = wants; unfit = unfit }

over_first : (L : List Token → Type 0) (t : Token) (ts : List Token) → L [] → (WantsOperand L [] → ⊥) → (Begins L (t ∷ []) → ⊥) → HasWrongNumber L (t ∷ ts)
over_first L t ts whole wants unfit = inr (record { before = []; token = t; rest = ts; tokens_are = refl; whole = whole; wants = wants; unfit = unfit })

-- an operand that fits, and what is behind it; or one that does not fit
says_read_as : (L M : List Token → Type 0) (kind : Kind) (t : Token) (ts : List Token) (r : Reads) (o : Option ReadAs) → said_as kind t ≡ o
    → (Fits kind t → Behind L M t) → Begins L [] → WantsOperand L [] → (Begins L (t ∷ []) → Fits kind t) → Says M ts r → Says L (t ∷ ts) (then_read_as o r)
says_read_as L M kind t ts r None is behind begins wants fits says = wrong_first L t ts begins wants (λ b. let fit = fits b in none_some fit.0 (sym is ∙ fit.1))
  where
    none_some : (g : ReadAs) → None ≡ Some g → ⊥
    none_some g e = absurd cc
says_read_as L M kind t ts r (Some g) is behind begins wants fits says = says_more L M t (behind (g, is)) g ts r says

-- ---- tokens that fit

pub sample : Kind → Token
sample kinds.Variable = record { quoted = false; text = codes "$a" }
sample kinds.Node = record { quoted = false; text = codes "doc" }
sample kinds.Class = record { quoted = false; text = codes "A" }
sample kinds.Chars = record { quoted = true; text = [] }
sample kinds.Value = record { quoted = true; text = [] }
sample kinds.Flags = record { quoted = false; text = codes "none" }
sample kinds.Callback = record { quoted = false; text = codes "connected" }

sample_fits : (kind : Kind) → Fits kind (sample kind)
unfolding sample
sample_fits kinds.Variable = (_, refl)
sample_fits kinds.Node = (_, refl)
sample_fits kinds.Class = (_, refl)
sample_fits kinds.Chars = (_, refl)
sample_fits kinds.Value = (_, refl)
sample_fits kinds.Flags = (_, refl)
sample_fits kinds.Callback = (_, refl)

sample_plain : (kind : Kind) → is_keyword (sample kind) ≡ false
unfolding sample
sample_plain kinds.Variable = refl
sample_plain kinds.Node = refl
sample_plain kinds.Class = refl
sample_plain kinds.Chars = refl
sample_plain kinds.Value = refl
sample_plain kinds.Flags = refl
sample_plain kinds.Callback = refl

-- ---- optional parts

keys_none : (keys : List Key) → WholeKeys keys []
keys_none [] = tt
keys_none (key ∷ keys) = tt

-- a keyword is one
keyword_is : (k : Keyword) (t : Token) → is_word (keyword k) t ≡ true → is_keyword t ≡ true
keyword_is keywords.Is t is = or_left (is_word (codes "is") t)
    (is_word (codes "in") t || (is_word (codes "extends") t || (is_word (codes "state") t || (is_word (codes "deep") t || false)))) is
keyword_is keywords.In t is = or_right (is_word (codes "is") t)
    (is_word (codes "in") t || (is_word (codes "extends") t || (is_word (codes "state") t || (is_word (codes "deep") t || false))))
    (or_left (is_word (codes "in") t) (is_word (codes "extends") t || (is_word (codes "state") t || (is_word (codes "deep") t || false))) is)
keyword_is keywords.Extends t is =
    or_right (is_word (codes "is") t)
    (is_word (codes "in") t || (is_word (codes "extends") t || (is_word (codes "state") t || (is_word (codes "deep") t || false))))
    (or_right (is_word (codes "in") t) (is_word (codes "extends") t || (is_word (codes "state") t || (is_word (codes "deep") t || false)))
    (or_left (is_word (codes "extends") t) (is_word (codes "state") t || (is_word (codes "deep") t || false)) is))
keyword_is keywords.State t is =
    or_right (is_word (codes "is") t)
    (is_word (codes "in") t || (is_word (codes "extends") t || (is_word (codes "state") t || (is_word (codes "deep") t || false))))
    (or_right (is_word (codes "in") t) (is_word (codes "extends") t || (is_word (codes "state") t || (is_word (codes "deep") t || false)))
    (or_right (is_word (codes "extends") t) (is_word (codes "state") t || (is_word (codes "deep") t || false))
    (or_left (is_word (codes "state") t) (is_word (codes "deep") t || false) is)))
keyword_is keywords.Deep t is =
    or_right (is_word (codes "is") t)
    (is_word (codes "in") t || (is_word (codes "extends") t || (is_word (codes "state") t || (is_word (codes "deep") t || false))))
    (or_right (is_word (codes "in") t) (is_word (codes "extends") t || (is_word (codes "state") t || (is_word (codes "deep") t || false)))
    (or_right (is_word (codes "extends") t) (is_word (codes "state") t || (is_word (codes "deep") t || false))
    (or_right (is_word (codes "state") t) (is_word (codes "deep") t || false) (or_left (is_word (codes "deep") t) false is))))

-- nothing but a keyword begins optional parts
keys_begin_by : (b : Bool) (key : Key) (keys : List Key) (t : Token) (ts : List Token) → is_word (keyword key.word) t ≡ b → WholeKeys (key ∷ keys) (t ∷ ts)
    → (WholeKeys keys (t ∷ ts) → is_keyword t ≡ true) → is_keyword t ≡ true
keys_begin_by true key keys t ts is whole others = keyword_is key.word t is
keys_begin_by false key keys t ts is whole others =
    others (second_of (is_word (keyword key.word) t) (BehindKey key.operand (WholeKeys keys) ts) (WholeKeys keys (t ∷ ts)) is whole)

keys_begin : (keys : List Key) (t : Token) (ts : List Token) → WholeKeys keys (t ∷ ts) → is_keyword t ≡ true
keys_begin [] t ts whole = absurd whole
keys_begin (key ∷ keys) t ts whole = keys_begin_by (is_word (keyword key.word) t) key keys t ts refl whole (λ w. keys_begin keys t ts w)

keys_want_none : (keys : List Key) → WantsOperand (WholeKeys keys) [] → ⊥
keys_want_none keys (inl part) = part (keys_none keys)
keys_want_none keys (inr (u, (plain, (more, whole)))) = let clash : true ≡ false = sym (keys_begin keys u more whole) ∙ plain in absurd cc

-- the same of lists that begin with a token, where the empty list is whole too and no operand is wanted at first
record AlsoAt (L M : List Token → Type 0) (t : Token) : Type 0 where
  less : (x : Token) → x ≡ t → (ts : List Token) → L (x ∷ ts) → M (x ∷ ts)
  more : (x : Token) → x ≡ t → (ts : List Token) → M (x ∷ ts) → L (x ∷ ts)
  none : L []
  wants : WantsOperand L [] → ⊥
  other : WantsOperand M [] → ⊥

also_begins : (L M : List Token → Type 0) (t : Token) → AlsoAt L M t → (x : Token) → x ≡ t → (ts : List Token) → Begins M (x ∷ ts) → Begins L (x ∷ ts)
also_begins L M t also x is ts (rest, whole) = (rest, also.more x is (ts ++ rest) whole)

also_less : (L M : List Token → Type 0) (t : Token) → AlsoAt L M t → (x : Token) → x ≡ t → (ts : List Token) → Begins L (x ∷ ts) → Begins M (x ∷ ts)
also_less L M t also x is ts (rest, whole) = (rest, also.less x is (ts ++ rest) whole)

also_wants : (L M : List Token → Type 0) (t : Token) → AlsoAt L M t → (x : Token) → x ≡ t → (ts : List Token) → WantsOperand M (x ∷ ts)
    → WantsOperand L (x ∷ ts)
also_wants L M t also x is ts (inl part) = inl (λ whole. part (also.less x is ts whole))
also_wants L M t also x is ts (inr (u, (plain, begins))) = inr (u, (plain, also_begins L M t also x is (ts ++ u ∷ []) begins))

also_wants_less : (L M : List Token → Type 0) (t : Token) → AlsoAt L M t → (x : Token) → x ≡ t → (ts : List Token) → WantsOperand L (x ∷ ts)
    → WantsOperand M (x ∷ ts)
also_wants_less L M t also x is ts (inl part) = inl (λ whole. part (also.more x is ts whole))
also_wants_less L M t also x is ts (inr (u, (plain, begins))) = inr (u, (plain, also_less L M t also x is (ts ++ u ∷ []) begins))

also_wrong : (L M : List Token → Type 0) (t : Token) → AlsoAt L M t → (ts : List Token) → HasWrongWord M (t ∷ ts) → HasWrongWord L (t ∷ ts)
also_wrong L M t also ts w = go w.before w.tokens_are w.begins w.wants w.unfit
  where
    go : (before : List Token) → t ∷ ts ≡ before ++ w.token ∷ w.rest → Begins M before → WantsOperand M before → (Begins M (before ++ w.token ∷ []) → ⊥)
        → HasWrongWord L (t ∷ ts)
    go [] is begins wants unfit = absurd (also.other wants)
    go (x ∷ before) is begins wants unfit =
        let first : x ≡ t = (cc) in
        record {
          before = x ∷ before;
          token = w.token;
          rest = w.rest;
          tokens_are = is;
          begins = also_begins L M t also x first before begins;
          wants = also_wants L M t also x first before wants;
          unfit = λ b. unfit (also_less L M t also x first (before ++ w.token ∷ []) b);
        }

also_number : (L M : List Token → Type 0) (t : Token) → AlsoAt L M t → (ts : List Token) → HasWrongNumber M (t ∷ ts) → HasWrongNumber L (t ∷ ts)
also_number L M t also ts (inl lacks) = inl (also_begins L M t also t refl ts lacks.0, λ whole. lacks.1 (also.less t refl ts whole))
also_number L M t also ts (inr w) = inr (go w.before w.tokens_are w.whole w.wants w.unfit)
  where
    go : (before : List Token) → t ∷ ts ≡ before ++ w.token ∷ w.rest → M before → (WantsOperand M before → ⊥) → (Begins M (before ++ w.token ∷ []) → ⊥)
        → HasOneOver L (t ∷ ts)
    go [] is whole wants unfit =
        let first : w.token ≡ t = (cc) in
        record {
          before = [];
          token = w.token;
          rest = w.rest;
          tokens_are = is;
          whole = also.none;
          wants = also.wants;
          unfit = λ b. unfit (also_less L M t also w.token first [] b);
        }
    go (x ∷ before) is whole wants unfit =
        let first : x ≡ t = (cc) in
        record {
          before = x ∷ before;
          token = w.token;
          rest = w.rest;
          tokens_are = is;
          whole = also.more x first before whole;
          wants = λ b. wants (also_wants_less L M t also x first before b);
          unfit = λ b. unfit (also_less L M t also x first (before ++ w.token ∷ []) b);
        }

says_also : (L M : List Token → Type 0) (t : Token) → AlsoAt L M t → (g : ReadAs) (ts : List Token) (r : Reads) → Says M (t ∷ ts) r
    → Says L (t ∷ ts) (with_front (g ∷ []) r)
says_also L M t also g ts (Ok read_as) says = also.more t refl ts says
says_also L M t also g ts (Err Long) says = says
says_also L M t also g ts (Err Utf8) says = says
says_also L M t also g ts (Err Quote) says = says
says_also L M t also g ts (Err Escape) says = says
says_also L M t also g ts (Err BadWord) says = also_wrong L M t also ts says
says_also L M t also g ts (Err Arity) says = also_number L M t also ts says
says_also L M t also g ts (Err Place) says = says

-- ---- the keyword is there, or it is not

behind_says : (operand : Option Kind) (keys : List Key) (ts : List Token) → ((us : List Token) → Says (WholeKeys keys) us (read_keys keys us))
    → Says (BehindKey operand (WholeKeys keys)) ts (behind_key operand (read_keys keys) ts)
behind_says None keys ts says = says_front (WholeKeys keys) ts (read_as.There ∷ []) (read_keys keys ts) (says ts)
behind_says (Some kind) keys [] says = inl ((sample kind ∷ [], (sample_fits kind, keys_none keys)), λ whole. whole)
behind_says (Some kind) keys (t ∷ ts) says =
    says_read_as (BehindKey (Some kind) (WholeKeys keys)) (WholeKeys keys) kind t ts (read_keys keys ts) (said_as kind t) refl
    (λ fit. record { less = λ us whole. whole.1; more = λ us whole. (fit, whole) }) (sample kind ∷ [], (sample_fits kind, keys_none keys))
    (inl (λ whole. whole)) (λ begins. begins.1.0) (says ts)

keys_say_by : (b : Bool) (key : Key) (keys : List Key) (t : Token) (ts : List Token) → is_word (keyword key.word) t ≡ b
    → ((us : List Token) → Says (WholeKeys keys) us (read_keys keys us))
    → Says (WholeKeys (key ∷ keys)) (t ∷ ts)
    (cond b (behind_key key.operand (read_keys keys) ts) (with_front (read_as.NotThere ∷ []) (read_keys keys (t ∷ ts))))
keys_say_by true key keys t ts is says = says_behind (WholeKeys (key ∷ keys)) (BehindKey key.operand (WholeKeys keys)) t (record {
  less = λ us whole. first_of (is_word (keyword key.word) t) (BehindKey key.operand (WholeKeys keys) us) (WholeKeys keys (t ∷ us)) is whole;
  more = λ us whole. to_first (is_word (keyword key.word) t) (BehindKey key.operand (WholeKeys keys) us) (WholeKeys keys (t ∷ us)) is whole;
}) ts (behind_key key.operand (read_keys keys) ts) (behind_says key.operand keys ts says)
keys_say_by false key keys t ts is says = says_also (WholeKeys (key ∷ keys)) (WholeKeys keys) t (record {
  less = λ x same us whole. second_of (is_word (keyword key.word) x) (BehindKey key.operand (WholeKeys keys) us) (WholeKeys keys (x ∷ us))
      (ap (λ (y : Token). is_word (keyword key.word) y) same ∙ is) whole;
  more = λ x same us whole. to_second (is_word (keyword key.word) x) (BehindKey key.operand (WholeKeys keys) us) (WholeKeys keys (x ∷ us))
      (ap (λ (y : Token). is_word (keyword key.word) y) same ∙ is) whole;
  none = tt;
  wants = keys_want_none (key ∷ keys);
  other = keys_want_none keys;
}) read_as.NotThere ts (read_keys keys (t ∷ ts)) (says (t ∷ ts))

keys_say : (keys : List Key) (ts : List Token) → Says (WholeKeys keys) ts (read_keys keys ts)
keys_say [] [] = tt
keys_say [] (t ∷ ts) = over_first (WholeKeys []) t ts tt (keys_want_none []) (λ begins. begins.1)
keys_say (key ∷ keys) [] = tt
keys_say (key ∷ keys) (t ∷ ts) = keys_say_by (is_word (keyword key.word) t) key keys t ts refl (λ us. keys_say keys us)

-- ---- an operand or nothing, and repeated ones

many_none : (n : ℕ) (kind : Kind) → WholeMany n kind []
many_none zero kind = tt
many_none (suc n) kind = tt

-- where an operand may begin, an operand is wanted
may_begin : (L : List Token → Type 0) (kind : Kind) → Begins L (sample kind ∷ []) → WantsOperand L []
may_begin L kind begins = inr (sample kind, (sample_plain kind, begins))

maybe_less : (kind : Kind) (t : Token) (us : List Token) → WholeMaybe kind (t ∷ us) → WholeKeys [] us
maybe_less kind t [] whole = tt
maybe_less kind t (u ∷ us) whole = whole

maybe_more : (kind : Kind) (t : Token) → Fits kind t → (us : List Token) → WholeKeys [] us → WholeMaybe kind (t ∷ us)
maybe_more kind t fit [] whole = fit
maybe_more kind t fit (u ∷ us) whole = whole

maybe_fits : (kind : Kind) (t : Token) (us : List Token) → WholeMaybe kind (t ∷ us) → Fits kind t
maybe_fits kind t [] whole = whole
maybe_fits kind t (u ∷ us) whole = absurd whole

maybe_read_as : (kind : Kind) (t : Token) (ts : List Token) (r : Reads) → Says (WholeKeys []) ts r
    → Says (WholeMaybe kind) (t ∷ ts) (then_read_as (said_as kind t) r)
maybe_read_as kind t ts r says = says_read_as (WholeMaybe kind) (WholeKeys []) kind t ts r (said_as kind t) refl
    (λ fit. record { less = maybe_less kind t; more = maybe_more kind t fit }) ([], tt) (may_begin (WholeMaybe kind) kind ([], sample_fits kind))
    (λ begins. maybe_fits kind t begins.0 begins.1) says

maybe_says : (kind : Kind) (ts : List Token) → Says (WholeMaybe kind) ts (read_maybe kind ts)
maybe_says kind [] = tt
maybe_says kind (t ∷ []) = maybe_read_as kind t [] (Ok []) tt
maybe_says kind (t ∷ u ∷ ts) = maybe_read_as kind t (u ∷ ts) (Err Arity) (keys_say [] (u ∷ ts))

many_say : (n : ℕ) (kind : Kind) (ts : List Token) → Says (WholeMany n kind) ts (read_many n kind ts)
many_say zero kind [] = tt
many_say (suc n) kind [] = tt
many_say zero kind (t ∷ ts) = over_first (WholeMany zero kind) t ts tt wants (λ begins. begins.1)
  where
    wants : WantsOperand (WholeMany zero kind) [] → ⊥
    wants (inl part) = part tt
    wants (inr (u, (plain, begins))) = begins.1
many_say (suc n) kind (t ∷ ts) = says_read_as (WholeMany (suc n) kind) (WholeMany n kind) kind t ts (read_many n kind ts) (said_as kind t) refl
    (λ fit. record { less = λ us whole. whole.1; more = λ us whole. (fit, whole) }) ([], tt)
    (may_begin (WholeMany (suc n) kind) kind ([], (sample_fits kind, many_none n kind))) (λ begins. begins.1.0) (many_say n kind ts)

pairs_none : (n : ℕ) (kind : Kind) → WholePairs n kind []
pairs_none zero kind = tt
pairs_none (suc n) kind = tt

-- the second of a pair, and more pairs
abbrev Second : ℕ → Kind → List Token → Type 0
Second n kind [] = ⊥
Second n kind (u ∷ us) = Fits kind u × WholePairs n kind us

pair_less : (n : ℕ) (kind : Kind) (t : Token) (us : List Token) → WholePairs (suc n) kind (t ∷ us) → Second n kind us
pair_less n kind t [] whole = whole
pair_less n kind t (u ∷ us) whole = (whole.0.1, whole.1)

pair_more : (n : ℕ) (kind : Kind) (t : Token) → Fits kind t → (us : List Token) → Second n kind us → WholePairs (suc n) kind (t ∷ us)
pair_more n kind t fit [] whole = whole
pair_more n kind t fit (u ∷ us) whole = ((fit, whole.0), whole.1)

pair_fits : (n : ℕ) (kind : Kind) (t : Token) (us : List Token) → WholePairs (suc n) kind (t ∷ us) → Fits kind t
pair_fits n kind t [] whole = absurd whole
pair_fits n kind t (u ∷ us) whole = whole.0.0

pair_read_as : (n : ℕ) (kind : Kind) (t : Token) (ts : List Token) (r : Reads) → Says (Second n kind) ts r
    → Says (WholePairs (suc n) kind) (t ∷ ts) (then_read_as (said_as kind t) r)
pair_read_as n kind t ts r says = says_read_as (WholePairs (suc n) kind) (Second n kind) kind t ts r (said_as kind t) refl
    (λ fit. record { less = pair_less n kind t; more = pair_more n kind t fit }) ([], tt)
    (may_begin (WholePairs (suc n) kind) kind (sample kind ∷ [], ((sample_fits kind, sample_fits kind), pairs_none n kind)))
    (λ begins. pair_fits n kind t begins.0 begins.1) says

pairs_say : (n : ℕ) (kind : Kind) (ts : List Token) → Says (WholePairs n kind) ts (read_pairs n kind ts)
pairs_say zero kind [] = tt
pairs_say (suc n) kind [] = tt
pairs_say zero kind (t ∷ ts) = over_first (WholePairs zero kind) t ts tt wants (λ begins. begins.1)
  where
    wants : WantsOperand (WholePairs zero kind) [] → ⊥
    wants (inl part) = part tt
    wants (inr (u, (plain, begins))) = begins.1
pairs_say (suc n) kind (t ∷ []) = pair_read_as n kind t [] (Err Arity) (inl ((sample kind ∷ [], (sample_fits kind, pairs_none n kind)), λ whole. whole))
pairs_say (suc n) kind (t ∷ u ∷ ts) = pair_read_as n kind t (u ∷ ts) (then_read_as (said_as kind u) (read_pairs n kind ts))
    (says_read_as (Second n kind) (WholePairs n kind) kind u ts (read_pairs n kind ts) (said_as kind u) refl
    (λ fit. record { less = λ us whole. whole.1; more = λ us whole. (fit, whole) }) (sample kind ∷ [], (sample_fits kind, pairs_none n kind))
    (inl (λ whole. whole)) (λ begins. begins.1.0) (pairs_say n kind ts))

-- ---- what is wanted can be had

pub word_token : List ℕ → Token
word_token word = record { quoted = false; text = word }

is_word_same : (word : List ℕ) → is_word word (word_token word) ≡ true
unfolding word_token
is_word_same word = (bytes_eq-Decides word word).1 refl

mutual
  some_whole : (Action : List Token → Type 0) (a : List Token) → Action a → (wants : Wants) → (ts : List Token) × Whole Action wants ts
  some_whole Action a is End = ([], tt)
  some_whole Action a is (One kind more) = let rest = some_whole Action a is more in (sample kind ∷ rest.0, (sample_fits kind, rest.1))
  some_whole Action a is (Pick rows) = let row = some_row Action a is rows in (row.0 ∷ row.1, row.2)
  some_whole Action a is (Keys keys) = ([], keys_none keys)
  some_whole Action a is (Maybe kind) = ([], tt)
  some_whole Action a is (Many n kind) = ([], many_none n kind)
  some_whole Action a is (Pairs n kind) = ([], pairs_none n kind)
  some_whole Action a is Inner = (a, is)

  some_row : (Action : List Token → Type 0) (a : List Token) → Action a → (rows : Rows) → (t : Token) × (ts : List Token) × WholeRow Action rows t ts
  some_row Action a is (LastRow word wants) = let rest =
      some_whole Action a is wants in (
        word_token (spelling word),
        rest.0,
        to_first (is_word (spelling word) (word_token (spelling word))) (Whole Action wants rest.0) ⊥ (is_word_same (spelling word)) rest.1,
      )
  some_row Action a is (Row word wants rows) = let rest =
      some_whole Action a is wants in (
        word_token (spelling word),
        rest.0,
        to_first (is_word (spelling word) (word_token (spelling word))) (Whole Action wants rest.0) (WholeRow Action rows (word_token (spelling word)) rest.0)
            (is_word_same (spelling word)) rest.1,
      )

-- ---- what is wanted

-- an action of fewer than so many tokens is read as the case says, and there is one
pub record IsActionOf (Action : List Token → Type 0) (action : List Token → Reads) (n : ℕ) : Type 0 where
  pub says : (ts : List Token) → length ts < n → Says Action ts (action ts)
  pub some : List Token
  pub is_action : Action some

-- the first word of a row
pub record Picks (Action L : List Token → Type 0) (rows : Rows) (t : Token) : Type 0 where
  pub behind : Behind L (WholeRow Action rows t) t
  pub begins : Begins L []
  pub part : L [] → ⊥

end_says : (Action : List Token → Type 0) (ts : List Token) (action : List Token → Reads) → Says (Whole Action End) ts (read action End ts)
end_says Action [] action = tt
end_says Action (t ∷ ts) action = over_first (Whole Action End) t ts tt wants (λ begins. begins.1)
  where
    wants : WantsOperand (Whole Action End) [] → ⊥
    wants (inl part) = part tt
    wants (inr (u, (plain, begins))) = begins.1

last_row_by : (b : Bool) (Action L : List Token → Type 0) (action : List Token → Reads) (word : Word) (wants : Wants) (t : Token) (ts : List Token)
    → is_word (spelling word) t ≡ b → Picks Action L (LastRow word wants) t
    → Says (Whole Action wants) ts (read action wants ts) → Says L (t ∷ ts) (cond b (with_front (read_as.Word word ∷ []) (read action wants ts)) (Err BadWord))
last_row_by true Action L action word wants t ts is picks says = says_more L (Whole Action wants) t (record {
  less = λ us whole. first_of (is_word (spelling word) t) (Whole Action wants us) ⊥ is (picks.behind.less us whole);
  more = λ us whole. picks.behind.more us (to_first (is_word (spelling word) t) (Whole Action wants us) ⊥ is whole);
}) (read_as.Word word) ts (read action wants ts) says
last_row_by false Action L action word wants t ts is picks says =
    wrong_first L t ts picks.begins (inl picks.part)
    (λ begins. second_of (is_word (spelling word) t) (Whole Action wants begins.0) ⊥ is (picks.behind.less begins.0 begins.1))

row_by : (b : Bool) (Action L : List Token → Type 0) (action : List Token → Reads) (word : Word) (wants : Wants) (rows : Rows) (t : Token) (ts : List Token)
    → is_word (spelling word) t ≡ b → Picks Action L (Row word wants rows) t
    → Says (Whole Action wants) ts (read action wants ts) → (Picks Action L rows t → Says L (t ∷ ts) (read_row action rows t ts))
    → Says L (t ∷ ts) (cond b (with_front (read_as.Word word ∷ []) (read action wants ts)) (read_row action rows t ts))
row_by true Action L action word wants rows t ts is picks says others = says_more L (Whole Action wants) t (record {
  less = λ us whole. first_of (is_word (spelling word) t) (Whole Action wants us) (WholeRow Action rows t us) is (picks.behind.less us whole);
  more = λ us whole. picks.behind.more us (to_first (is_word (spelling word) t) (Whole Action wants us) (WholeRow Action rows t us) is whole);
}) (read_as.Word word) ts (read action wants ts) says
row_by false Action L action word wants rows t ts is picks says others = others (record {
  behind = record {
    less = λ us whole. second_of (is_word (spelling word) t) (Whole Action wants us) (WholeRow Action rows t us) is (picks.behind.less us whole);
    more = λ us whole. picks.behind.more us (to_second (is_word (spelling word) t) (Whole Action wants us) (WholeRow Action rows t us) is whole);
  };
  begins = picks.begins;
  part = picks.part;
})

one_begins : (Action : List Token → Type 0) (a : List Token) → Action a → (kind : Kind) (more : Wants) → Begins (Whole Action (One kind more)) []
one_begins Action a is kind more = some_whole Action a is (One kind more)

pick_begins : (Action : List Token → Type 0) (a : List Token) → Action a → (rows : Rows) → Begins (Whole Action (Pick rows)) []
pick_begins Action a is rows = some_whole Action a is (Pick rows)

pub fewer : (t : Token) (ts : List Token) (n : ℕ) → length (t ∷ ts) < n → length ts < n
fewer t ts n small = omega (arith, small)

mutual
  wants_say : (Action : List Token → Type 0) (action : List Token → Reads) (n : ℕ) → IsActionOf Action action n → (wants : Wants) (ts : List Token)
      → length ts < n → Says (Whole Action wants) ts (read action wants ts)
  wants_say Action action n is End ts small = end_says Action ts action
  wants_say Action action n is (One kind more) [] small = inl (one_begins Action is.some is.is_action kind more, λ whole. whole)
  wants_say Action action n is (One kind more) (t ∷ ts) small =
      says_read_as (Whole Action (One kind more)) (Whole Action more) kind t ts (read action more ts) (said_as kind t) refl
      (λ fit. record { less = λ us whole. whole.1; more = λ us whole. (fit, whole) }) (one_begins Action is.some is.is_action kind more) (inl (λ whole. whole))
      (λ begins. begins.1.0) (wants_say Action action n is more ts (fewer t ts n small))
  wants_say Action action n is (Pick rows) [] small = inl (pick_begins Action is.some is.is_action rows, λ whole. whole)
  wants_say Action action n is (Pick rows) (t ∷ ts) small = rows_say Action action n is rows (Whole Action (Pick rows)) t ts (fewer t ts n small) (record {
    behind = record { less = λ us whole. whole; more = λ us whole. whole };
    begins = pick_begins Action is.some is.is_action rows;
    part = λ whole. whole;
  })
  wants_say Action action n is (Keys keys) ts small = keys_say keys ts
  wants_say Action action n is (Maybe kind) ts small = maybe_says kind ts
  wants_say Action action n is (Many k kind) ts small = many_say k kind ts
  wants_say Action action n is (Pairs k kind) ts small = pairs_say k kind ts
  wants_say Action action n is Inner ts small = is.says ts small

  pub rows_say : (Action : List Token → Type 0) (action : List Token → Reads) (n : ℕ) → IsActionOf Action action n
      → (rows : Rows) (L : List Token → Type 0) (t : Token) (ts : List Token) → length ts < n → Picks Action L rows t
      → Says L (t ∷ ts) (read_row action rows t ts)
  rows_say Action action n is (LastRow word wants) L t ts small picks =
      last_row_by (is_word (spelling word) t) Action L action word wants t ts refl picks (wants_say Action action n is wants ts small)
  rows_say Action action n is (Row word wants rows) L t ts small picks =
      row_by (is_word (spelling word) t) Action L action word wants rows t ts refl picks (wants_say Action action n is wants ts small)
      (λ p. rows_say Action action n is rows L t ts small p)
