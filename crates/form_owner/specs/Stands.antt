-- The table stands for the trees, and for who of their elements is a form-associated custom element.
use Rattle.std.specs.Prelude.{◌≡◌, ◌+◌, ◌≤◌, ℕ, true, List, length, Option, Some, None}
use Rattle.node_trees.specs.Trees.{Trees}
use Rattle.node_trees.specs.Nodes.{IsNode, size}
use Rattle.node_trees.specs.Paths.{is_among}
use Rattle.form_controls.specs.Owners.{Forms, form_owner, is_associated, controls_of}
use Rattle.form_controls.specs.Disabled.{is_disabled}
use Rattle.form_controls.specs.Checkedness.{group_of}
use Rattle.owner_rows.specs.OwnerRow.{OwnerRow, row_in}
use Rattle.owner_rows.specs.Attributes.{seen_at}
use Rattle.form_owner.specs.declared.touch.Touch.{Touch}
use Rattle.form_owner.specs.OwnerRows.{OwnerRows}
use Rattle.form_owner.specs.Looks.{AreRight}
use Rattle.ordered_tables.specs.Held.{is_held, is_known}
use Rattle.form_owner.specs.Attributes.{is_naming}
use Rattle.form_owner.specs.Touches.{IsTouched}

-- the rows say who is a form-associated custom element, and those are nodes
pub record KnowsAssociated (rows : List OwnerRow) (f : Forms) : Type 0 where
  pub flags : (i : ℕ) → (row_in rows i).associated ≡ is_associated f (i + 1)
  pub nodes : (n : ℕ) → is_associated f n ≡ true → IsNode f.forest n

-- each row says of its node what the definitions say, and a number that is none of a node has no row
pub record Stands (table : OwnerRows) (f : Forms) : Type 0 where
  pub within : length table.rows ≤ size f.forest
  pub associated : KnowsAssociated table.rows f
  pub owner : (i : ℕ) → (row_in table.rows i).owner ≡ form_owner f (i + 1)
  pub disabled : (i : ℕ) → (row_in table.rows i).disabled ≡ is_disabled f (i + 1)
  pub controls : (i : ℕ) → (row_in table.rows i).controls ≡ controls_of f (i + 1)
  pub seen : (i : ℕ) → (row_in table.rows i).seen ≡ seen_at f.forest (i + 1)
  pub named : (id : List ℕ) (n : ℕ) → is_held table.named id n ≡ is_naming f.forest id n
  pub looks : AreRight f.forest table.rows (is_known table.named) table.looks

-- the table stood for trees that this touch made what they are now
pub record StoodBefore (table : OwnerRows) (touch : Touch) (now : Trees) : Type 0 where
  pub before : Forms
  pub stands : Stands table before
  pub touched : IsTouched touch before.forest now

-- the table stands for these trees
pub record StandsFor (table : OwnerRows) (now : Trees) : Type 0 where
  pub forms : Forms
  pub stands : Stands table forms
  pub forest : forms.forest ≡ now

-- n is a member of the group of a radio button, in trees for which the table stands
pub record IsMember (table : OwnerRows) (now : Trees) (radio n : ℕ) : Type 0 where
  pub for : StandsFor table now
  pub among : is_among n (group_of for.forms radio) ≡ true

abbrev pub IsMemberOrNone : OwnerRows → Trees → ℕ → Option ℕ → Type 0
IsMemberOrNone table now radio None = Unit {0}
IsMemberOrNone table now radio (Some n) = IsMember table now radio n
