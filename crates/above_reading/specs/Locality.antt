-- What a change of the trees leaves as it was for an element, as a test on the trees as they are after it; where an attribute
-- changes, also on its node as it was before.
use Rattle.std.specs.Prelude.{◌≡◌, ◌≢◌, ℕ, true, false, List, Some, codes}
use Rattle.element_names.specs.declared.natives.Native.TheVariants.{Fieldset, Legend, Optgroup}
use Rattle.node_trees.specs.Trees.{Trees}
use Rattle.node_trees.specs.Spots.{facts_at, parent_at, attribute_at}
use Rattle.node_trees.specs.Orders.{order_of, tree_order_of}
use Rattle.node_trees.specs.Paths.{is_among}
use Rattle.node_trees.specs.Ids.{has_id}
use Rattle.form_controls.specs.Kinds.{is_a}
use Rattle.form_controls.specs.Owners.{Forms, form_owner}
use Rattle.form_controls.specs.Disabled.{has_disabled, is_disabled}

-- neither the form owner nor the disabled state of m changes, from before to now
pub record IsUnchanged (before now : Forms) (m : ℕ) : Type 0 where
  pub owner : form_owner now m ≡ form_owner before m
  pub disabled : is_disabled now m ≡ is_disabled before m

-- what n's move (it came to stand below p, or was taken from there) may change of m: nothing, where these hold; all is read off
-- the trees as they are NOW
pub record IsAsideOfMove (now : Trees) (n p m : ℕ) : Type 0 where
  pub outside : is_among m (order_of now n) ≡ false
  -- no element of the moved tree has the ID that m's `form` attribute names
  pub unnamed : (id : List ℕ) (j : ℕ) → attribute_at now m (codes "form") ≡ Some id → is_among j (tree_order_of now n) ≡ true →
      has_id id (facts_at now j) ≡ false
  -- m is not below a fieldset that a legend came to or went from
  pub legend : is_a Legend now n ≡ true → is_a Fieldset now p ≡ true → is_among m (tree_order_of now p) ≡ false

-- what an attribute of n that is set or gone may change of m: nothing, where these hold
pub record IsAsideOfAttribute (before now : Trees) (n m : ℕ) : Type 0 where
  pub other : m ≢ n
  pub unnamed : (id : List ℕ) → attribute_at now m (codes "form") ≡ Some id → has_id id (facts_at now n) ≡ has_id id (facts_at before n)
  pub fieldset : is_a Fieldset now n ≡ true → is_among m (tree_order_of now n) ≡ true → has_disabled now n ≡ has_disabled before n
  pub optgroup : is_a Optgroup now n ≡ true → parent_at now m ≡ Some n → has_disabled now n ≡ has_disabled before n
