-- Tables that are filled up by blank rows and written, whatever their rows are.
use Rattle.std.proofs.Common.{◌≡◌, ℕ, zero, suc, ◌<◌, ◌≤◌, List, [], ◌∷◌, ◌++◌, length, refl, ap, sym, ◌∙◌, subst, arith}
use Rattle.std.specs.Prelude.{slice_set}
use Rattle.form_controls.specs.Rows.{row_at, with_row}
use Rattle.form_controls.specs.Filling.{IsFilled}

module _ {A : Type 0} (blank : A) where
  -- a blank row behind
  row_at-behind : (rows : List A) (i : ℕ) → row_at blank (rows ++ blank ∷ []) i ≡ row_at blank rows i
  row_at-behind [] zero = refl
  row_at-behind [] (suc i) = refl
  row_at-behind (y ∷ ys) zero = refl
  row_at-behind (y ∷ ys) (suc i) = row_at-behind ys i

  with_row-behind : (rows : List A) (i : ℕ) (x : A) → length rows ≤ i → with_row blank (rows ++ blank ∷ []) i x ≡ with_row blank rows i x
  with_row-behind [] zero x past = refl
  with_row-behind [] (suc i) x past = refl
  with_row-behind (y ∷ ys) zero x past = absurd (omega arith)
  with_row-behind (y ∷ ys) (suc i) x past = ap (λ v. y ∷ v) (with_row-behind ys i x (omega arith))

  pub filled-next : (i : ℕ) (old rows new : List A) → IsFilled blank i old rows → length rows ≤ i → new ≡ rows ++ blank ∷ [] → IsFilled blank i old new
  filled-next i old rows new filled past e = record {
    same = ap (λ v. row_at blank v i) e ∙ row_at-behind rows i ∙ filled.same;
    written = λ x. ap (λ v. with_row blank v i x) e ∙ with_row-behind rows i x past ∙ filled.written x;
  }

  -- within the table a row is written in its place
  pub with_row-within : (rows : List A) (i : ℕ) (x : A) → i < length rows → with_row blank rows i x ≡ slice_set rows i x
  with_row-within [] i x within = absurd (omega arith)
  with_row-within (y ∷ ys) zero x within = refl
  with_row-within (y ∷ ys) (suc i) x within = ap (λ v. y ∷ v) (with_row-within ys i x (omega arith))

  -- so what is written where the table is filled up changes the row that stood there
  changed : (i : ℕ) (old rows new : List A) (change : A → A) → IsFilled blank i old rows → i < length rows →
      new ≡ slice_set rows i (change (row_at blank rows i)) → new ≡ with_row blank old i (change (row_at blank old i))
  changed i old rows new change filled within e =
      e ∙ sym (with_row-within rows i (change (row_at blank rows i)) within)
      ∙ ap (λ v. with_row blank rows i (change v)) filled.same
      ∙ filled.written (change (row_at blank old i))

  -- the same, where the table and the place have other names
  pub changed-at : (i place : ℕ) (old was rows slice written new : List A) (change : A → A) → place ≡ i → was ≡ old → slice ≡ rows → new ≡ written →
      IsFilled blank place was rows → place < length rows → written ≡ slice_set slice i (change (row_at blank slice i))
      → new ≡ with_row blank old i (change (row_at blank old i))
  changed-at i place old was rows slice written new change at table lent back filled within e =
      let here : IsFilled blank i was rows = subst (λ p. IsFilled blank p was rows) at filled in
      let before : IsFilled blank i old rows = subst (λ v. IsFilled blank i v rows) table here in
      changed i old rows new change before (omega arith) (back ∙ e ∙ ap (λ v. slice_set v i (change (row_at blank v i))) lent)
