-- What a touch did to the trees, and who is a form-associated custom element after it.
use Rattle.std.specs.Prelude.{◌≡◌, ◌⊎◌, ℕ, Bool, not, ◌==◌, if◌then◌else◌, List, ◌∷◌, filter, Option, Some, None}
use Rattle.node_trees.specs.Trees.{Trees, cut, graft, with_attribute, without_attribute}
use Rattle.node_trees.specs.Spots.{parent_at}
use Rattle.node_trees.specs.Nodes.{size, IsNode, IsNodeOrNone, IsTidy}
use Rattle.node_trees.specs.Kinds.{IsElement}
use Rattle.node_trees.specs.Insertion.{may_insert}
use Rattle.form_controls.specs.Owners.{Forms}
use Rattle.form_owner.specs.declared.touch.Touch.{Touch}
use Rattle.form_owner.specs.declared.touch.Touch.TheVariants.{Inserted, Removed, Attr, Associated}

-- what was done to the trees

-- a root became a child
pub record IsInserted (n : ℕ) (old new : Trees) : Type 0 where
  pub tidy : IsTidy old
  pub parent : ℕ
  pub before : Option ℕ
  pub parent_node : IsNode old parent
  pub node : IsNode old n
  pub before_node : IsNodeOrNone old before
  pub may : may_insert old parent n before ≡ None
  pub free : parent_at old n ≡ None
  pub size_is : size new ≡ size old
  pub is : new ≡ graft old parent n before

-- a child became a root
pub record IsRemoved (n parent : ℕ) (old new : Trees) : Type 0 where
  pub tidy : IsTidy old
  pub node : IsNode old n
  pub placed : parent_at old n ≡ Some parent
  pub size_is : size new ≡ size old
  pub is : new ≡ cut old n

-- an attribute has a value, or is gone
abbrev pub IsAttribute : ℕ → List ℕ → Trees → Trees → Type 0
IsAttribute n name old new = ((value : List ℕ) × (new ≡ with_attribute n name value old)) ⊎ (new ≡ without_attribute n name old)

-- an attribute of an element was set or taken away
pub record IsChanged (n : ℕ) (old new : Trees) : Type 0 where
  pub tidy : IsTidy old
  pub element : IsElement old n
  pub size_is : size new ≡ size old
  pub name : List ℕ
  pub is : IsAttribute n name old new

-- the definition of an element was set or cleared, and the trees stayed
pub record IsDefined (n : ℕ) (old new : Trees) : Type 0 where
  pub element : IsElement old n
  pub is : new ≡ old

abbrev pub IsTouched : Touch → Trees → Trees → Type 0
IsTouched (Inserted n) old new = IsInserted n old new
IsTouched (Removed n parent) old new = IsRemoved n parent old new
IsTouched (Attr n) old new = IsChanged n old new
IsTouched (Associated n on) old new = IsDefined n old new

-- the form-associated custom elements

abbrev pub with_associated : ℕ → Bool → List ℕ → List ℕ
with_associated n on ns = if on then n ∷ ns else filter (λ m. not (m == n)) ns

abbrev pub associated_by : Touch → List ℕ → List ℕ
associated_by (Inserted n) ns = ns
associated_by (Removed n parent) ns = ns
associated_by (Attr n) ns = ns
associated_by (Associated n on) ns = with_associated n on ns

-- what form owners are read off after a touch, which left these trees
abbrev pub after_touch : Touch → Forms → Trees → Forms
after_touch touch before now = record { forest = now; associated = associated_by touch before.associated }
