-- The row of a node, that of node 1 first. Past the end of a list of rows each is blank.
use Rattle.std.specs.Prelude.{ℕ, Bool, false, not, ◌-◌, ◌==◌, List, [], Option, None}
use Rattle.form_controls.specs.Rows.{row_at}

-- what was last seen of an element's attributes
pub record Seen : Type 0 where
  pub id : Option (List ℕ)  -- the `id` attribute
  pub form : Option (List ℕ)  -- the `form` attribute
  pub disabled : Bool  -- it has the `disabled` attribute

pub record OwnerRow : Type 0 where
  pub owner : Option ℕ  -- the form owner
  pub disabled : Bool  -- it is disabled
  pub associated : Bool  -- it is a form-associated custom element
  pub controls : List ℕ  -- the controls of a form, in tree order
  pub seen : Seen

abbrev pub blank_seen : Seen
blank_seen = record { id = None; form = None; disabled = false }

abbrev pub blank_row : OwnerRow
blank_row = record { owner = None; disabled = false; associated = false; controls = []; seen = blank_seen }

-- the row at a place, from 0
abbrev pub row_in : List OwnerRow → ℕ → OwnerRow
row_in rows i = row_at blank_row rows i

-- the row of a node
abbrev pub row_of : List OwnerRow → ℕ → OwnerRow
row_of rows n = row_in rows (n - 1)

-- m is another than n
abbrev pub is_other : ℕ → ℕ → Bool
is_other n m = not (m == n)
