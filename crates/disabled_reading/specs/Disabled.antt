-- Whether a node is disabled, given whether it is a form-associated custom element. With is_associated for that, it is the
-- definition of form_controls.
use Rattle.std.specs.Prelude.{ℕ, Bool, not, ◌&&◌, ◌||◌, if◌then◌else◌}
use Rattle.element_names.specs.declared.natives.Native.TheVariants.{Fieldset, OptionItem}
use Rattle.node_trees.specs.Trees.{Trees}
use Rattle.form_controls.specs.Kinds.{is_a}
use Rattle.form_controls.specs.Disabled.{has_disabled, is_in_disabled_fieldset, is_option_disabled}
use Rattle.owner_reading.specs.Owners.{listed_by}

abbrev pub disabled_with : Trees → ℕ → Bool → Bool
disabled_with forest n associated =
    if is_a OptionItem forest n then is_option_disabled forest n
    else (listed_by forest n associated && not (is_a Fieldset forest n)) && (has_disabled forest n || is_in_disabled_fieldset forest n)
