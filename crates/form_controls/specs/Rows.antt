-- Tables with a row for each number from 0 on. Past its end a table is blank.
use Rattle.std.specs.Prelude.{ℕ, zero, suc, List, [], ◌∷◌, slice_get, unwrap_or}

abbrev pub row_at : {A : Type 0} → A → List A → ℕ → A
row_at blank rows i = unwrap_or (slice_get rows i) blank

-- a row written, behind as many blank ones as it needs
abbrev pub with_row : {A : Type 0} → A → List A → ℕ → A → List A
with_row blank [] zero x = x ∷ []
with_row blank (y ∷ ys) zero x = x ∷ ys
with_row blank [] (suc i) x = blank ∷ with_row blank [] i x
with_row blank (y ∷ ys) (suc i) x = y ∷ with_row blank ys i x
