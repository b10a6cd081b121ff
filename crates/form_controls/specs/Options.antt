-- The options of a select (HTML Standard, sections "The select element", "The option element").
use Rattle.std.specs.Prelude.{ℕ, Bool, not, if◌then◌else◌, List, [], ◌∷◌, codes, map, filter, find, flat_map, Option, Some, None, unwrap_or}
use Rattle.std.specs.List.{concat, last_or}
use Rattle.std.specs.Option.{option_or, option_to_list}
use Rattle.element_names.specs.declared.natives.Native.TheVariants.{Select, Optgroup, OptionItem}
use Rattle.node_trees.specs.Trees.{Trees}
use Rattle.node_trees.specs.Spots.{facts_at, attribute_at, parent_at, children_at}
use Rattle.node_trees.specs.Orders.{tree_order_of}
use Rattle.form_controls.specs.Kinds.{is_a, has_attribute}
use Rattle.form_controls.specs.Disabled.{is_option_disabled}
use Rattle.form_controls.specs.declared.control.Control.{Control}
use Rattle.form_controls.specs.Controls.{control_at}
use Rattle.form_controls.specs.Texts.{collapsed}

-- which they are

abbrev pub option_children : Trees → ℕ → List ℕ
option_children forest n = filter (is_a OptionItem forest) (children_at forest n)

abbrev pub options_at : Trees → ℕ → List ℕ
options_at forest child =
    if is_a OptionItem forest child then child ∷ []
    else if is_a Optgroup forest child then option_children forest child
    else []

-- "list of options": the option children of a select, and those of its optgroup children, in tree order
abbrev pub options_of : Trees → ℕ → List ℕ
options_of forest select = flat_map (options_at forest) (children_at forest select)

abbrev pub where_select : Trees → Option ℕ → Option ℕ
where_select forest None = None
where_select forest (Some n) = if is_a Select forest n then Some n else None

abbrev pub select_from : Trees → Option ℕ → Option ℕ
select_from forest None = None
select_from forest (Some parent) =
    if is_a Optgroup forest parent then where_select forest (parent_at forest parent) else where_select forest (Some parent)

-- the select among whose options an option is
abbrev pub select_of : Trees → ℕ → Option ℕ
select_of forest option = select_from forest (parent_at forest option)

abbrev pub is_multiple : Trees → ℕ → Bool
is_multiple forest select = has_attribute forest select (codes "multiple")

-- which are chosen

-- an option's flag: as it was set, or else whether it has a `selected` attribute ("selectedness")
abbrev pub is_selected : List Control → Trees → ℕ → Bool
is_selected controls forest option = unwrap_or (control_at controls option).flag (has_attribute forest option (codes "selected"))

abbrev pub selected_of : List Control → Trees → ℕ → List ℕ
selected_of controls forest select = filter (is_selected controls forest) (options_of forest select)

abbrev pub first_enabled : Trees → List ℕ → Option ℕ
first_enabled forest options = find (λ o. not (is_option_disabled forest o)) options

-- of the flagged options the last; where there is none, of all the first that is not disabled ("selectedness setting algorithm")
abbrev pub chosen_one : Trees → List ℕ → List ℕ → Option ℕ
chosen_one forest selected options = option_or (last_or None selected) (first_enabled forest options)

-- the chosen options of a select, in tree order: with `multiple` those that are flagged, else at most one
abbrev pub chosen : List Control → Trees → ℕ → List ℕ
chosen controls forest select =
    if is_multiple forest select then selected_of controls forest select
    else option_to_list (chosen_one forest (selected_of controls forest select) (options_of forest select))

-- values

-- the characters of the texts below n in its tree, in tree order (DOM Standard, section "Interface Text", "descendant text content")
abbrev pub text_below : Trees → ℕ → List ℕ
text_below forest n = concat (map (λ m. (facts_at forest m).chars) (tree_order_of forest n))

-- an option's value: its `value` attribute, or its text
abbrev pub option_value : Trees → ℕ → List ℕ
option_value forest option = unwrap_or (attribute_at forest option (codes "value")) (collapsed (text_below forest option))
