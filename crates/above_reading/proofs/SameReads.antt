-- What form owners and disabled states are read off: where that is the same for a node, so are they.
use Rattle.std.proofs.Common.{◌≡◌, ℕ, true, cond, List, Option, Some, None, refl, ap, ◌∙◌}
use Rattle.std.specs.Prelude.{codes, not, is_some, ◌&&◌, ◌||◌}
use Rattle.std.specs.List.{find, list_any}
use Rattle.element_names.specs.declared.natives.Native.{Native}
use Rattle.element_names.specs.declared.natives.Native.TheVariants.{Form, Fieldset, OptionItem}
use Rattle.element_names.specs.Natives.{same_native}
use Rattle.node_trees.specs.Trees.{Trees}
use Rattle.node_trees.specs.Paths.{is_among, connected}
use Rattle.node_trees.specs.Spots.{attribute_at, parent_at}
use Rattle.form_controls.specs.Kinds.{native_at, is_a}
use Rattle.form_controls.specs.Owners.{Forms, ancestors, is_listed_native, is_associated, is_listed, is_submittable, named_form, nearest_form, owner_by}
use Rattle.form_controls.specs.Owners.{form_owner}
use Rattle.form_controls.specs.Disabled.{has_disabled, disables, is_in_disabled_fieldset, is_in_disabled_group, is_option_disabled, is_disabled}
use Rattle.above_reading.specs.Locality.{IsUnchanged}
use Rattle.above_reading.proofs.Tests.{find-same, any-same}

-- what is read for m in f is what is read for it in g
pub record ReadsSame (f g : Trees) (m : ℕ) : Type 0 where
  pub native : (i : ℕ) → native_at g i ≡ native_at f i
  pub attribute : (name : List ℕ) → attribute_at g m name ≡ attribute_at f m name
  pub group : is_in_disabled_group g (parent_at g m) ≡ is_in_disabled_group f (parent_at f m)
  pub above : ancestors g m ≡ ancestors f m
  pub joined : connected g m ≡ connected f m
  pub named : (id : List ℕ) → attribute_at g m (codes "form") ≡ Some id → named_form g m id ≡ named_form f m id
  pub disabling : (i : ℕ) → is_among i (ancestors f m) ≡ true → disables g m i ≡ disables f m i

pub is_a-same : (f g : Trees) → ((i : ℕ) → native_at g i ≡ native_at f i) → (element : Native) (i : ℕ) → is_a element g i ≡ is_a element f i
is_a-same f g native element i = ap (same_native element) (native i)

module _ (before : Forms) (g : Trees) (m : ℕ) (same : ReadsSame before.forest g m) where
  abbrev f : Trees
  f = before.forest

  abbrev now : Forms
  now = record before { forest = g }

  -- its form owner

  nearest : nearest_form g m ≡ nearest_form f m
  nearest = ap (find (is_a Form g)) same.above ∙ find-same (is_a Form g) (is_a Form f) (ancestors f m) (λ i _. is_a-same f g same.native Form i)

  owner-by : (o : Option (List ℕ)) → attribute_at g m (codes "form") ≡ o → owner_by g m o ≡ owner_by f m o
  owner-by None e = nearest
  owner-by (Some id) e =
      ap (λ b. cond b (named_form g m id) (nearest_form g m)) same.joined
      ∙ ap (λ v. cond (connected f m) v (nearest_form g m)) (same.named id e)
      ∙ ap (λ v. cond (connected f m) (named_form f m id) v) nearest

  listed : is_listed now m ≡ is_listed before m
  listed = ap (λ v. is_listed_native v || is_associated before m) (same.native m)

  owner-same : form_owner now m ≡ form_owner before m
  owner-same =
      ap (λ b. cond b (owner_by g m (attribute_at g m (codes "form"))) None) listed
      ∙ ap (λ v. cond (is_listed before m) v None) (owner-by (attribute_at g m (codes "form")) refl ∙ ap (owner_by f m) (same.attribute (codes "form")))

  -- its disabled state

  has-same : has_disabled g m ≡ has_disabled f m
  has-same = ap is_some (same.attribute (codes "disabled"))

  option-same : is_option_disabled g m ≡ is_option_disabled f m
  option-same = ap (λ b. b || is_in_disabled_group g (parent_at g m)) has-same ∙ ap (λ b. has_disabled f m || b) same.group

  fieldset-same : is_in_disabled_fieldset g m ≡ is_in_disabled_fieldset f m
  fieldset-same = ap (list_any (disables g m)) same.above ∙ any-same (disables g m) (disables f m) (ancestors f m) same.disabling

  submittable : is_submittable now m ≡ is_submittable before m
  submittable = ap (λ b. b && not (is_a Fieldset g m)) listed ∙ ap (λ b. is_listed before m && not b) (is_a-same f g same.native Fieldset m)

  control-same : (is_submittable now m && (has_disabled g m || is_in_disabled_fieldset g m))
      ≡ (is_submittable before m && (has_disabled f m || is_in_disabled_fieldset f m))
  control-same =
      ap (λ b. b && (has_disabled g m || is_in_disabled_fieldset g m)) submittable
      ∙ ap (λ b. is_submittable before m && (b || is_in_disabled_fieldset g m)) has-same
      ∙ ap (λ b. is_submittable before m && (has_disabled f m || b)) fieldset-same

  disabled-same : is_disabled now m ≡ is_disabled before m
  disabled-same =
      ap (λ b. cond b (is_option_disabled g m) (is_submittable now m && (has_disabled g m || is_in_disabled_fieldset g m)))
      (is_a-same f g same.native OptionItem m)
      ∙ ap (λ b. cond (is_a OptionItem f m) b (is_submittable now m && (has_disabled g m || is_in_disabled_fieldset g m))) option-same
      ∙ ap (λ b. cond (is_a OptionItem f m) (is_option_disabled f m) b) control-same

  pub unchanged : IsUnchanged before now m
  unchanged = record { owner = owner-same; disabled = disabled-same }

-- what is associated changes nothing for the others
pub unchanged-marked : (f : Forms) (other : List ℕ) (m : ℕ) → is_among m other ≡ is_among m f.associated → IsUnchanged f (record f { associated = other }) m
unchanged-marked f other m same = record {
  owner = ap (λ b. cond (is_listed_native (native_at f.forest m) || b) (owner_by f.forest m (attribute_at f.forest m (codes "form"))) None) same;
  disabled = ap (λ b. cond (is_a OptionItem f.forest m) (is_option_disabled f.forest m)
      (((is_listed_native (native_at f.forest m) || b) && not (is_a Fieldset f.forest m)) && (has_disabled f.forest m || is_in_disabled_fieldset f.forest m)))
      same;
}
