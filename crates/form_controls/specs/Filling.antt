-- Tables that are filled up by blank rows.
use Rattle.std.specs.Prelude.{◌≡◌, ℕ, List}
use Rattle.form_controls.specs.Rows.{row_at, with_row}

-- blank rows were put behind a table, up to a place: the row there is what it was, and a row that is written there makes what it made before
pub record IsFilled {A : Type 0} (blank : A) (place : ℕ) (old new : List A) : Type 0 where
  pub same : row_at blank new place ≡ row_at blank old place
  pub written : (x : A) → with_row blank new place x ≡ with_row blank old place x
