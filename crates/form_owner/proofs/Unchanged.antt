-- Where a form owner and a disabled state stay, nothing is told; and they stay where forms are not about a node.
use Rattle.std.proofs.Common.{◌≡◌, ℕ, Bool, false, None, refl, sym, ap, ◌∙◌}
use Rattle.std.specs.Prelude.{◌||◌, nat_eq, is_some}
use Rattle.std.specs.Bool.{beq}
use Rattle.std.specs.Option.{option_eq}
use Rattle.std.proofs.lemmas.Bool.{or_parts}
use Rattle.element_names.specs.declared.natives.Native.TheVariants.{OptionItem}
use Rattle.element_names.specs.Natives.{native, same_native}
use Rattle.node_trees.specs.Spots.{facts_at}
use Rattle.form_controls.specs.Changes.{differs, where_new}
use Rattle.form_controls.specs.Disabled.{is_disabled}
use Rattle.form_controls.specs.Kinds.{is_a}
use Rattle.form_controls.specs.Owners.{Forms, form_owner, is_associated, is_listed_native}
use Rattle.form_controls.proofs.Differ.{new-none, owners_tell, states_tell}
use Rattle.above_reading.specs.Locality.{IsUnchanged}
use Rattle.owner_reading.specs.Owners.{listed_by}

pub no-change : (before now : Forms) (m : ℕ) → IsUnchanged before now m → differs before now m ≡ false
no-change before now m same =
    ap (λ o. is_some (where_new (option_eq nat_eq) (form_owner before m) o) || is_some (where_new beq (is_disabled before m) (is_disabled now m))) same.owner
    ∙ ap (λ o. is_some o || is_some (where_new beq (is_disabled before m) (is_disabled now m))) (new-none (option_eq nat_eq) owners_tell (form_owner before m))
    ∙ ap (λ b. is_some (where_new beq (is_disabled before m) b)) same.disabled
    ∙ ap is_some (new-none beq states_tell (is_disabled before m))

unlisted-owner : (f : Forms) (m : ℕ) → listed_by f.forest m (is_associated f m) ≡ false → form_owner f m ≡ None
unlisted-owner f m out = rw out refl

unlisted-state : (f : Forms) (m : ℕ) → listed_by f.forest m (is_associated f m) ≡ false → is_a OptionItem f.forest m ≡ false → is_disabled f m ≡ false
unlisted-state f m out no_option = rw (no_option, out) refl

module _ (before now : Forms) (m : ℕ) (associated : Bool) (local : (facts_at now.forest m).local ≡ (facts_at before.forest m).local)
    (was : is_associated before m ≡ associated) (is : is_associated now m ≡ associated)
    (none : (listed_by now.forest m associated || is_a OptionItem now.forest m) ≡ false) where
  out : listed_by now.forest m (is_associated now m) ≡ false
  out = ap (listed_by now.forest m) is ∙ (or_parts (listed_by now.forest m associated) (is_a OptionItem now.forest m) none).0

  no_option : is_a OptionItem now.forest m ≡ false
  no_option = (or_parts (listed_by now.forest m associated) (is_a OptionItem now.forest m) none).1

  out_before : listed_by before.forest m (is_associated before m) ≡ false
  out_before = ap (listed_by before.forest m) (was ∙ sym is) ∙ sym (ap (λ l. is_listed_native (native l) || is_associated now m) local) ∙ out

  pub unconcerned : IsUnchanged before now m
  unconcerned = record {
    owner = unlisted-owner now m out ∙ sym (unlisted-owner before m out_before);
    disabled = unlisted-state now m out no_option
        ∙ sym (unlisted-state before m out_before (sym (ap (λ l. same_native OptionItem (native l)) local) ∙ no_option));
  }
