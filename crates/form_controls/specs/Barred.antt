-- Who is barred from constraint validation (HTML Standard, section "Constraints").
use Rattle.std.specs.Prelude.{ℕ, Bool, not, ◌&&◌, ◌||◌}
use Rattle.std.specs.List.{list_any}
use Rattle.element_names.specs.declared.natives.Native.TheVariants.{Datalist}
use Rattle.element_names.specs.declared.input_kinds.InputKind.TheVariants.{Hidden, Reset, Button}
use Rattle.node_trees.specs.Trees.{Trees}
use Rattle.form_controls.specs.Kinds.{is_a, has_kind, is_text_control, is_readonly}
use Rattle.form_controls.specs.Owners.{Forms, ancestors, is_associated}
use Rattle.form_controls.specs.Disabled.{is_disabled}

-- it is below a datalist (section "The datalist element")
abbrev pub is_in_datalist : Trees → ℕ → Bool
is_in_datalist forest n = list_any (is_a Datalist forest) (ancestors forest n)

-- of a kind that is never validated (sections "Hidden state (type=hidden)", "Reset Button state (type=reset)", "Button state
-- (type=button)", "The button element")
abbrev pub has_barred_kind : Trees → ℕ → Bool
has_barred_kind forest n = has_kind Hidden forest n || has_kind Reset forest n || has_kind Button forest n

-- `readonly` counts on text controls and on form-associated custom elements
abbrev pub is_kept_from_editing : Forms → ℕ → Bool
is_kept_from_editing f n = (is_text_control f.forest n || is_associated f n) && is_readonly f.forest n

-- "barred from constraint validation", of a submittable element
abbrev pub is_barred : Forms → ℕ → Bool
is_barred f n = is_disabled f n || is_in_datalist f.forest n || has_barred_kind f.forest n || is_kept_from_editing f n

-- "candidate for constraint validation" (`willValidate`), of a submittable element
abbrev pub will_validate : Forms → ℕ → Bool
will_validate f n = not (is_barred f n)
