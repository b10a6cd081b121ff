-- Tables that are filled up and written over, and rows that are changed where they are there.
use Rattle.std.proofs.Common.{◌≡◌, ℕ, zero, suc, ◌<◌, true, Option, Some, None, List, [], ◌∷◌, length, get_or, refl, ap, sym, ◌∙◌, arith}
use Rattle.std.specs.Prelude.{is_some, slice_set, unwrap_or}
use Rattle.form_controls.specs.Rows.{row_at, with_row}
use Rattle.form_controls.specs.Filling.{IsFilled}
use Rattle.form_controls.proofs.Filled.{with_row-within}

module _ {A : Type 0} (blank : A) where
  -- what is written where the table is filled up is written into the table that stood there
  pub filled-written : (i place : ℕ) (old was rows slice written new : List A) (x : A) → place ≡ i → was ≡ old → slice ≡ rows → new ≡ written →
      IsFilled blank place was rows → place < length rows → written ≡ slice_set slice place x → new ≡ with_row blank old i x
  filled-written i place old was rows slice written new x at table lent back filled within e =
      back ∙ e
      ∙ ap (λ v. slice_set v place x) lent
      ∙ sym (with_row-within blank rows place x within)
      ∙ filled.written x
      ∙ ap (λ v. with_row blank v place x) table
      ∙ ap (λ p. with_row blank old p x) at

-- tables where rows are left out: what is written over a row that is there changes it
module _ {A : Type 0} (none : A) where
  there : (rows : List (Option A)) (i : ℕ) (row : Option A) → is_some (row_at None rows i) ≡ true → get_or rows i row ≡ row_at None rows i
  there [] zero row e = absurd cc
  there [] (suc i) row e = absurd cc
  there (y ∷ ys) zero row e = refl
  there (y ∷ ys) (suc i) row e = there ys i row e

  there-within : (rows : List (Option A)) (i : ℕ) → is_some (row_at None rows i) ≡ true → i < length rows
  there-within [] zero e = absurd cc
  there-within [] (suc i) e = absurd cc
  there-within (y ∷ ys) zero e = omega arith
  there-within (y ∷ ys) (suc i) e = omega (arith, there-within ys i e)

  pub changed : (rows : List (Option A)) (i place : ℕ) (row : Option A) (x : A) (change : A → A) → is_some (row_at None rows i) ≡ true → place ≡ i →
      get_or rows place row ≡ Some x → slice_set rows place (Some (change x)) ≡ with_row None rows i (Some (change (unwrap_or (row_at None rows i) none)))
  changed rows i place row x change e at found =
      let stands : row_at None rows i ≡ Some x = sym (there rows i row e) ∙ ap (λ p. get_or rows p row) (sym at) ∙ found in
      ap (λ p. slice_set rows p (Some (change x))) at
      ∙ sym (with_row-within None rows i (Some (change x)) (there-within rows i e))
      ∙ ap (λ r. with_row None rows i (Some (change (unwrap_or r none)))) (sym stands)
