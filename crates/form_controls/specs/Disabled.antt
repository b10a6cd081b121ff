-- Which controls and options are disabled (HTML Standard, section "Enabling and disabling form controls: the disabled attribute").
use Rattle.std.specs.Prelude.{ℕ, Bool, false, not, ◌&&◌, ◌||◌, if◌then◌else◌, codes, find, Option, Some, None}
use Rattle.std.specs.List.{list_any}
use Rattle.element_names.specs.declared.natives.Native.TheVariants.{Fieldset, Legend, Optgroup, OptionItem}
use Rattle.node_trees.specs.Trees.{Trees}
use Rattle.node_trees.specs.Spots.{parent_at, children_at}
use Rattle.node_trees.specs.Paths.{is_among}
use Rattle.form_controls.specs.Kinds.{is_a, has_attribute}
use Rattle.form_controls.specs.Owners.{Forms, ancestors, is_submittable}

-- n has the `disabled` attribute (section "Enabling and disabling form controls: the disabled attribute")
abbrev pub has_disabled : Trees → ℕ → Bool
has_disabled forest n = has_attribute forest n (codes "disabled")

-- fieldsets

-- the first legend among the children of a fieldset
abbrev pub first_legend : Trees → ℕ → Option ℕ
first_legend forest fieldset = find (is_a Legend forest) (children_at forest fieldset)

abbrev pub is_inside : Trees → ℕ → Option ℕ → Bool
is_inside forest n None = false
is_inside forest n (Some above) = is_among above (ancestors forest n)

-- what is above n is a fieldset with `disabled`, and n is not inside its first legend (section "The fieldset element")
abbrev pub disables : Trees → ℕ → ℕ → Bool
disables forest n above =
    is_a Fieldset forest above && has_disabled forest above && not (is_inside forest n (first_legend forest above))

abbrev pub is_in_disabled_fieldset : Trees → ℕ → Bool
is_in_disabled_fieldset forest n = list_any (disables forest n) (ancestors forest n)

-- options

abbrev pub is_in_disabled_group : Trees → Option ℕ → Bool
is_in_disabled_group forest None = false
is_in_disabled_group forest (Some parent) = is_a Optgroup forest parent && has_disabled forest parent

-- an option has `disabled`, or its parent is an optgroup that has it (section "The option element", "disabled")
abbrev pub is_option_disabled : Trees → ℕ → Bool
is_option_disabled forest n = has_disabled forest n || is_in_disabled_group forest (parent_at forest n)

-- "disabled": a submittable element or an option; nothing else is
abbrev pub is_disabled : Forms → ℕ → Bool
is_disabled f n =
    if is_a OptionItem f.forest n then is_option_disabled f.forest n
    else is_submittable f n && (has_disabled f.forest n || is_in_disabled_fieldset f.forest n)
