-- What a reading answers is the same case behind one more token.
use Rattle.std.proofs.Common.{◌≡◌, List, [], ◌∷◌, ◌++◌, Ok, Err, ap, inl, inr}
use Rattle.rule_tokens.specs.declared.refused.Bad.TheVariants.{Long, Utf8, Quote, Escape, Word as BadWord, Arity, Place}
use Rattle.rule_tokens.specs.declared.token.Token.{Token}
use Rattle.rule_tokens.specs.Gives.{with_front}
use Rattle.rule_lines.specs.declared.read_as.ReadAs.{ReadAs}
use Rattle.rule_lines.specs.Read.{Reads}
use Rattle.rule_lines.specs.Whole.{Begins, WantsOperand, HasWrongWord, HasWrongNumber}

abbrev pub Says : (List Token → Type 0) → List Token → Reads → Type 0
Says L ts (Ok read_as) = L ts
Says L ts (Err Long) = ⊥
Says L ts (Err Utf8) = ⊥
Says L ts (Err Quote) = ⊥
Says L ts (Err Escape) = ⊥
Says L ts (Err BadWord) = HasWrongWord L ts
Says L ts (Err Arity) = HasWrongNumber L ts
Says L ts (Err Place) = ⊥

-- what is whole behind the token is whole with it, and only that
pub record Behind (L M : List Token → Type 0) (t : Token) : Type 0 where
  pub less : (ts : List Token) → L (t ∷ ts) → M ts
  pub more : (ts : List Token) → M ts → L (t ∷ ts)

begins_more : (L M : List Token → Type 0) (t : Token) → Behind L M t → (ts : List Token) → Begins M ts → Begins L (t ∷ ts)
begins_more L M t behind ts (rest, whole) = (rest, behind.more (ts ++ rest) whole)

begins_less : (L M : List Token → Type 0) (t : Token) → Behind L M t → (ts : List Token) → Begins L (t ∷ ts) → Begins M ts
begins_less L M t behind ts (rest, whole) = (rest, behind.less (ts ++ rest) whole)

wants_more : (L M : List Token → Type 0) (t : Token) → Behind L M t → (ts : List Token) → WantsOperand M ts → WantsOperand L (t ∷ ts)
wants_more L M t behind ts (inl part) = inl (λ whole. part (behind.less ts whole))
wants_more L M t behind ts (inr (u, (plain, begins))) = inr (u, (plain, begins_more L M t behind (ts ++ u ∷ []) begins))

wants_less : (L M : List Token → Type 0) (t : Token) → Behind L M t → (ts : List Token) → WantsOperand L (t ∷ ts) → WantsOperand M ts
wants_less L M t behind ts (inl part) = inl (λ whole. part (behind.more ts whole))
wants_less L M t behind ts (inr (u, (plain, begins))) = inr (u, (plain, begins_less L M t behind (ts ++ u ∷ []) begins))

one_more : (t : Token) (ts us : List Token) → ts ≡ us → t ∷ ts ≡ t ∷ us
one_more t ts us is = ap (λ (l : List Token). t ∷ l) is

wrong_more : (L M : List Token → Type 0) (t : Token) → Behind L M t → (ts : List Token) → HasWrongWord M ts → HasWrongWord L (t ∷ ts)
wrong_more L M t behind ts w = record {
  before = t ∷ w.before;
  token = w.token;
  rest = w.rest;
  tokens_are = one_more t ts (w.before ++ w.token ∷ w.rest) w.tokens_are;
  begins = begins_more L M t behind w.before w.begins;
  wants = wants_more L M t behind w.before w.wants;
  unfit = λ b. w.unfit (begins_less L M t behind (w.before ++ w.token ∷ []) b);
}

number_more : (L M : List Token → Type 0) (t : Token) → Behind L M t → (ts : List Token) → HasWrongNumber M ts → HasWrongNumber L (t ∷ ts)
number_more L M t behind ts (inl lacks) = inl (begins_more L M t behind ts lacks.0, λ whole. lacks.1 (behind.less ts whole))
number_more L M t behind ts (inr w) = inr (record {
  before = t ∷ w.before;
  token = w.token;
  rest = w.rest;
  tokens_are = one_more t ts (w.before ++ w.token ∷ w.rest) w.tokens_are;
  whole = behind.more w.before w.whole;
  wants = λ b. w.wants (wants_less L M t behind w.before b);
  unfit = λ b. w.unfit (begins_less L M t behind (w.before ++ w.token ∷ []) b);
})

pub says_behind : (L M : List Token → Type 0) (t : Token) → Behind L M t → (ts : List Token) (r : Reads) → Says M ts r → Says L (t ∷ ts) r
says_behind L M t behind ts (Ok read_as) says = behind.more ts says
says_behind L M t behind ts (Err Long) says = says
says_behind L M t behind ts (Err Utf8) says = says
says_behind L M t behind ts (Err Quote) says = says
says_behind L M t behind ts (Err Escape) says = says
says_behind L M t behind ts (Err BadWord) says = wrong_more L M t behind ts says
says_behind L M t behind ts (Err Arity) says = number_more L M t behind ts says
says_behind L M t behind ts (Err Place) says = says

-- with more operands in front the case is the same
pub says_front : (L : List Token → Type 0) (ts : List Token) (front : List ReadAs) (r : Reads) → Says L ts r → Says L ts (with_front front r)
says_front L ts front (Ok read_as) says = says
says_front L ts front (Err Long) says = says
says_front L ts front (Err Utf8) says = says
says_front L ts front (Err Quote) says = says
says_front L ts front (Err Escape) says = says
says_front L ts front (Err BadWord) says = says
says_front L ts front (Err Arity) says = says
says_front L ts front (Err Place) says = says

pub says_more : (L M : List Token → Type 0) (t : Token) → Behind L M t → (g : ReadAs) (ts : List Token) (r : Reads) → Says M ts r
    → Says L (t ∷ ts) (with_front (g ∷ []) r)
says_more L M t behind g ts r says = says_front L (t ∷ ts) (g ∷ []) r (says_behind L M t behind ts r says)
