-- What the changes from one state of the trees to another are, said without saying how they are found.
use Rattle.std.specs.Prelude.{◌≡◌, ◌≢◌, ◌⊎◌, ℕ, Option, Some, None}
use Rattle.node_trees.specs.Nodes.{IsNode}
use Rattle.form_controls.specs.declared.change.Change.{Change}
use Rattle.form_controls.specs.Owners.{Forms, form_owner}
use Rattle.form_controls.specs.Disabled.{is_disabled}

-- what is told is the new value, where it is another; where nothing is told it is the old one
pub record IsNews {A : Type 0} (old new : A) (told : Option A) : Type 0 where
  pub other : (x : A) → told ≡ Some x → (x ≡ new) × (old ≢ new)
  pub same : told ≡ None → old ≡ new

-- the form owner of n differs, or its disabled state
abbrev pub Differs : Forms → Forms → ℕ → Type 0
Differs old new n = (form_owner old n ≢ form_owner new n) ⊎ (is_disabled old n ≢ is_disabled new n)

-- a change is what differs for one node
pub record IsDifference (old new : Forms) (c : Change) : Type 0 where
  pub node : IsNode new.forest c.node
  pub owner : IsNews (form_owner old c.node) (form_owner new c.node) c.owner
  pub disabled : IsNews (is_disabled old c.node) (is_disabled new c.node) c.disabled
  pub some : Differs old new c.node
