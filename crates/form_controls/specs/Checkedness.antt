-- Checkboxes and radio buttons (HTML Standard, sections "The input element", "Radio Button state (type=radio)").
use Rattle.std.specs.Prelude.{ℕ, Bool, ◌&&◌, if◌then◌else◌, List, [], ◌∷◌, codes, filter, bytes_eq, nat_eq, Option, Some, None, unwrap_or}
use Rattle.std.specs.List.{last_or}
use Rattle.std.specs.Option.{option_eq}
use Rattle.element_names.specs.declared.natives.Native.TheVariants.{OptionItem}
use Rattle.element_names.specs.declared.input_kinds.InputKind.TheVariants.{Radio}
use Rattle.node_trees.specs.Trees.{Trees, is_number}
use Rattle.node_trees.specs.Spots.{after, first_of}
use Rattle.node_trees.specs.Paths.{root_at}
use Rattle.node_trees.specs.Orders.{tree_order_of}
use Rattle.form_controls.specs.Kinds.{is_a, has_kind, has_attribute, name_of}
use Rattle.form_controls.specs.Owners.{Forms, form_owner}
use Rattle.form_controls.specs.declared.control.Control.{Control}
use Rattle.form_controls.specs.Controls.{control_at}
use Rattle.form_controls.specs.Options.{is_selected}
use Rattle.form_controls.specs.Texts.{is_empty}

-- groups

-- n is a radio button, with the form owner of the other one, or without one as that is, and with its name
abbrev pub is_grouped_with : Forms → ℕ → ℕ → Bool
is_grouped_with f radio n =
    has_kind Radio f.forest n
    && option_eq nat_eq (form_owner f n) (form_owner f radio)
    && bytes_eq (name_of f.forest n) (name_of f.forest radio)

-- "radio button group": those of the same tree, in tree order; one without a name is alone
abbrev pub group_of : Forms → ℕ → List ℕ
group_of f radio =
    if is_empty (name_of f.forest radio) then radio ∷ []
    else filter (is_grouped_with f radio) (tree_order_of f.forest (root_at f.forest radio))

abbrev pub next_after : List ℕ → Option ℕ → Option ℕ
next_after group None = first_of group
next_after group (Some n) = after n group

-- the member of a radio button's group behind this one, or the first
abbrev pub next_in_group : Forms → ℕ → Option ℕ → Option ℕ
next_in_group f radio behind = next_after (group_of f radio) behind

-- checkedness

-- the flag of a checkbox or a radio button: as it was set, or else whether it has a `checked` attribute
abbrev pub is_flagged : List Control → Trees → ℕ → Bool
is_flagged controls forest n = unwrap_or (control_at controls n).flag (has_attribute forest n (codes "checked"))

-- of a radio button's group the last that is flagged: the one that is checked
abbrev pub checked_of : Forms → List Control → ℕ → Option ℕ
checked_of f controls radio = last_or None (filter (is_flagged controls f.forest) (group_of f radio))

-- "checkedness" of a checkbox or a radio button
abbrev pub is_checked : Forms → List Control → ℕ → Bool
is_checked f controls n =
    if has_kind Radio f.forest n then is_number (checked_of f controls n) n else is_flagged controls f.forest n

-- the flag of a checkbox, a radio button or an option: as it was set, or as its attribute says ("checkedness", "selectedness")
abbrev pub flagged : List Control → Trees → ℕ → Bool
flagged controls forest n = if is_a OptionItem forest n then is_selected controls forest n else is_flagged controls forest n
