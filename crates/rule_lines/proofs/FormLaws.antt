-- What a reading of a whole form answers is the case that holds.
use Rattle.std.proofs.Common.{◌<◌, ℕ, zero, suc, length, arith, Bool, true, false, List, [], ◌∷◌, Ok, Err, inl}
use Rattle.std.specs.Prelude.{codes}
use Rattle.rule_tokens.specs.declared.token.Token.{Token}
use Rattle.rule_tokens.specs.OperandForms.{is_word}
use Rattle.rule_lines.specs.FixedWords.{spelling}
use Rattle.rule_lines.specs.Grammar.{Wants, End, One, Pick, Keys, Maybe, Many, Pairs, Inner, Rows, LastRow, Row}
use Rattle.rule_tokens.specs.declared.refused.Bad.TheVariants.{Long, Utf8, Quote, Escape, Word as BadWord, Arity, Place}
use Rattle.rule_lines.specs.Laws.{IsAnswer, FormsAreRead}
use Rattle.rule_lines.specs.Read.{Reads, read_within, read_tokens}
use Rattle.rule_lines.specs.Rows.{forms}
use Rattle.rule_lines.specs.Whole.{either, Whole, WholeRow, FormWithin, IsForm, Begins}
use Rattle.rule_lines.proofs.Behind.{Says}
use Rattle.rule_lines.proofs.ReadLaws.{rows_say}

-- ---- what is whole for some actions is whole for more

either_map : (b : Bool) (X Y Z W : Type 0) → (X → Z) → (Y → W) → either b X Y → either b Z W
either_map true X Y Z W one two fact = one fact
either_map false X Y Z W one two fact = two fact

mutual
  whole_map : (A B : List Token → Type 0) → ((ts : List Token) → A ts → B ts) → (wants : Wants) (ts : List Token) → Whole A wants ts → Whole B wants ts
  whole_map A B also End [] whole = whole
  whole_map A B also End (t ∷ ts) whole = whole
  whole_map A B also (One kind more) [] whole = whole
  whole_map A B also (One kind more) (t ∷ ts) whole = (whole.0, whole_map A B also more ts whole.1)
  whole_map A B also (Pick rows) [] whole = whole
  whole_map A B also (Pick rows) (t ∷ ts) whole = row_map A B also rows t ts whole
  whole_map A B also (Keys keys) ts whole = whole
  whole_map A B also (Maybe kind) ts whole = whole
  whole_map A B also (Many n kind) ts whole = whole
  whole_map A B also (Pairs n kind) ts whole = whole
  whole_map A B also Inner ts whole = also ts whole

  row_map : (A B : List Token → Type 0) → ((ts : List Token) → A ts → B ts) → (rows : Rows) (t : Token) (ts : List Token) → WholeRow A rows t ts
      → WholeRow B rows t ts
  row_map A B also (LastRow word wants) t ts whole =
      either_map (is_word (spelling word) t) (Whole A wants ts) ⊥ (Whole B wants ts) ⊥ (λ w. whole_map A B also wants ts w) (λ w. w) whole
  row_map A B also (Row word wants rows) t ts whole =
      either_map (is_word (spelling word) t) (Whole A wants ts) (WholeRow A rows t ts) (Whole B wants ts) (WholeRow B rows t ts)
      (λ w. whole_map A B also wants ts w) (λ w. row_map A B also rows t ts w) whole

-- ---- a form is a whole of the table, and only that

within_form : (depth : ℕ) (ts : List Token) → FormWithin depth ts → IsForm ts
within_form depth ts form = (depth, form)

some_either : (b : Bool) (X Y : ℕ → Type 0) (Z W : Type 0) → (Z → (n : ℕ) × X n) → (W → (n : ℕ) × Y n) → either b Z W → (n : ℕ) × either b (X n) (Y n)
some_either true X Y Z W one two fact = one fact
some_either false X Y Z W one two fact = two fact

mutual
  whole_at : (wants : Wants) (ts : List Token) → Whole IsForm wants ts → (depth : ℕ) × Whole (FormWithin depth) wants ts
  whole_at End [] whole = (zero, whole)
  whole_at End (t ∷ ts) whole = absurd whole
  whole_at (One kind more) [] whole = absurd whole
  whole_at (One kind more) (t ∷ ts) whole = let rest = whole_at more ts whole.1 in (rest.0, (whole.0, rest.1))
  whole_at (Pick rows) [] whole = absurd whole
  whole_at (Pick rows) (t ∷ ts) whole = row_at rows t ts whole
  whole_at (Keys keys) ts whole = (zero, whole)
  whole_at (Maybe kind) ts whole = (zero, whole)
  whole_at (Many n kind) ts whole = (zero, whole)
  whole_at (Pairs n kind) ts whole = (zero, whole)
  whole_at Inner ts whole = whole

  row_at : (rows : Rows) (t : Token) (ts : List Token) → WholeRow IsForm rows t ts → (depth : ℕ) × WholeRow (FormWithin depth) rows t ts
  row_at (LastRow word wants) t ts whole =
      some_either (is_word (spelling word) t) (λ n. Whole (FormWithin n) wants ts) (λ n. ⊥) (Whole IsForm wants ts) ⊥ (λ w. whole_at wants ts w)
      (λ w. absurd w) whole
  row_at (Row word wants rows) t ts whole =
      some_either (is_word (spelling word) t) (λ n. Whole (FormWithin n) wants ts) (λ n. WholeRow (FormWithin n) rows t ts) (Whole IsForm wants ts)
      (WholeRow IsForm rows t ts) (λ w. whole_at wants ts w) (λ w. row_at rows t ts w) whole

form_less : (t : Token) (ts : List Token) → IsForm (t ∷ ts) → WholeRow IsForm forms t ts
form_less t ts (zero, form) = absurd form
form_less t ts (suc depth, form) = row_map (FormWithin depth) IsForm (within_form depth) forms t ts form

form_more : (t : Token) (ts : List Token) → WholeRow IsForm forms t ts → IsForm (t ∷ ts)
form_more t ts whole = let at = row_at forms t ts whole in (suc at.0, at.1)

no_form : IsForm [] → ⊥
no_form (zero, form) = form
no_form (suc depth, form) = form

-- ---- there is a form

abbrev bump : List Token
bump = record { quoted = false; text = codes "bump" } ∷ []

bump_is : IsForm bump
bump_is = (1, tt)

form_begins : Begins IsForm []
form_begins = (bump, bump_is)

-- ---- reading

says_within : (n : ℕ) (ts : List Token) → length ts < n → Says IsForm ts (read_within n ts)
says_within zero ts small = absurd (omega (arith, small))
says_within (suc n) [] small = inl (form_begins, no_form)
says_within (suc n) (t ∷ ts) small =
    rows_say IsForm (read_within n) n (record { says = λ us few. says_within n us few; some = bump; is_action = bump_is }) forms IsForm t ts
    (omega (arith, small))
    (record { behind = record { less = form_less t; more = form_more t }; begins = form_begins; part = no_form })

answer : (ts : List Token) (r : Reads) → Says IsForm ts r → IsAnswer ts r
answer ts (Ok read_as) says = says
answer ts (Err Long) says = absurd says
answer ts (Err Utf8) says = absurd says
answer ts (Err Quote) says = absurd says
answer ts (Err Escape) says = absurd says
answer ts (Err BadWord) says = says
answer ts (Err Arity) says = says
answer ts (Err Place) says = absurd says

-- each reading is answered by the case that holds
pub says_form : FormsAreRead
says_form ts = answer ts (read_tokens ts) (says_within (suc (length ts)) ts (omega arith))
