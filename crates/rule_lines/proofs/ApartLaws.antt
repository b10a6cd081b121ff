-- A form has no fault of its words, and no tokens have two of them.
use Rattle.std.proofs.Common.{◌≡◌, List, [], ◌∷◌, ◌++◌, refl, sym, ap, subst, ◌∙◌, ◌⊎◌, inl, inr}
use Rattle.std.proofs.lemmas.List.{append-nil}
use Rattle.rule_tokens.specs.declared.token.Token.{Token}
use Rattle.rule_lines.specs.Laws.{FaultsAreApart}
use Rattle.rule_lines.specs.Whole.{IsForm, Begins, WantsOperand, HasWrongWord, HasWrongNumber}

-- ---- fronts of a list of tokens

-- two places in one list: the same, or the second stands behind the first, or before it
abbrev Places : List Token → Token → List Token → Token → Type 0
Places a x b y = (a ≡ b) ⊎ (((m : List Token) × (b ≡ a ++ x ∷ m)) ⊎ ((m : List Token) × (a ≡ b ++ y ∷ m)))

further : (t : Token) (a : List Token) (x : Token) (b : List Token) (y : Token) → Places a x b y → Places (t ∷ a) x (t ∷ b) y
further t a x b y (inl same) = inl (ap (λ (l : List Token). t ∷ l) same)
further t a x b y (inr (inl (m, is))) = inr (inl (m, ap (λ (l : List Token). t ∷ l) is))
further t a x b y (inr (inr (m, is))) = inr (inr (m, ap (λ (l : List Token). t ∷ l) is))

same_first : (s t : Token) (a : List Token) (x : Token) (b : List Token) (y : Token) → s ≡ t → Places (s ∷ a) x (s ∷ b) y → Places (s ∷ a) x (t ∷ b) y
same_first s t a x b y same places = subst (λ (u : Token). Places (s ∷ a) x (u ∷ b) y) same places

places : (a : List Token) (x : Token) (r b : List Token) (y : Token) (s : List Token) → a ++ x ∷ r ≡ b ++ y ∷ s → Places a x b y
places [] x r [] y s e = inl refl
places [] x r (t ∷ b) y s e = let same : x ≡ t = cc in inr (inl (b, ap (λ (u : Token). u ∷ b) (sym same)))
places (t ∷ a) x r [] y s e = let same : t ≡ y = cc in inr (inr (a, ap (λ (u : Token). u ∷ a) same))
places (t ∷ a) x r (u ∷ b) y s e = let same : t ≡ u = cc in let more : a ++ x ∷ r ≡ b ++ y ∷ s =
    cc in same_first t u a x b y same (further t a x b y (places a x r b y s more))

-- what begins something begins it with each of its fronts
front_begins : (L : List Token → Type 0) (a : List Token) (x : Token) (m : List Token) → Begins L (a ++ x ∷ m) → Begins L (a ++ x ∷ [])
front_begins L a x m (more, whole) = (m ++ more, subst L (same a) whole)
  where
    same : (a : List Token) → (a ++ x ∷ m) ++ more ≡ (a ++ x ∷ []) ++ (m ++ more)
    same [] = refl
    same (t ∷ a) = ap (λ (l : List Token). t ∷ l) (same a)

whole_begins : (L : List Token → Type 0) (ts : List Token) → L ts → Begins L ts
whole_begins L ts whole = ([], subst L (sym (append-nil ts)) whole)

-- ---- one fault at most

-- where tokens begin a whole, none of them stands amiss
not_amiss : (L : List Token → Type 0) (ts before : List Token) (t : Token) (rest : List Token) → ts ≡ before ++ t ∷ rest → (Begins L (before ++ t ∷ []) → ⊥)
    → Begins L ts → ⊥
not_amiss L ts before t rest is unfit begins = unfit (front_begins L before t rest (subst (Begins L) is begins))

-- two tokens that stand amiss behind what begins a whole stand in one place
one_place : (L : List Token → Type 0) (ts a : List Token) (x : Token) (r b : List Token) (y : Token) (s : List Token)
    → ts ≡ a ++ x ∷ r → ts ≡ b ++ y ∷ s → Begins L a → Begins L b → (Begins L (a ++ x ∷ []) → ⊥) → (Begins L (b ++ y ∷ []) → ⊥) → a ≡ b
one_place L ts a x r b y s first second begins_a begins_b unfit_x unfit_y = by (places a x r b y s (sym first ∙ second))
  where
    by : Places a x b y → a ≡ b
    by (inl same) = same
    by (inr (inl (m, is))) = absurd (unfit_x (front_begins L a x m (subst (Begins L) is begins_b)))
    by (inr (inr (m, is))) = absurd (unfit_y (front_begins L b y m (subst (Begins L) is begins_a)))

form_has_no_wrong_word : (L : List Token → Type 0) (ts : List Token) → L ts → HasWrongWord L ts → ⊥
form_has_no_wrong_word L ts whole w = not_amiss L ts w.before w.token w.rest w.tokens_are w.unfit (whole_begins L ts whole)

form_has_no_wrong_number : (L : List Token → Type 0) (ts : List Token) → L ts → HasWrongNumber L ts → ⊥
form_has_no_wrong_number L ts whole (inl lacks) = lacks.1 whole
form_has_no_wrong_number L ts whole (inr over) = not_amiss L ts over.before over.token over.rest over.tokens_are over.unfit (whole_begins L ts whole)

word_or_number : (L : List Token → Type 0) (ts : List Token) → HasWrongWord L ts → HasWrongNumber L ts → ⊥
word_or_number L ts w (inl lacks) = not_amiss L ts w.before w.token w.rest w.tokens_are w.unfit lacks.0
word_or_number L ts w (inr over) =
    let same : w.before ≡ over.before =
    one_place L ts w.before w.token w.rest over.before over.token over.rest w.tokens_are over.tokens_are w.begins
    (whole_begins L over.before over.whole) w.unfit over.unfit in
    over.wants (subst (WantsOperand L) same w.wants)

pub one_fault : FaultsAreApart
one_fault ts = record {
  form_word = form_has_no_wrong_word IsForm ts;
  form_number = form_has_no_wrong_number IsForm ts;
  word_number = word_or_number IsForm ts;
}
