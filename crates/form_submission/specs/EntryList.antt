-- The entry list of a form (HTML Standard, section "Constructing the entry list").
use Rattle.std.specs.Prelude.{ℕ, Bool, not, ◌&&◌, ◌||◌, if◌then◌else◌, List, [], ◌∷◌, codes, map, filter, flat_map, Option}
use Rattle.std.specs.Str.{str_eq_ignore_ascii_case}
use Rattle.ce_base.specs.declared.entries.Entry.{Entry}
use Rattle.ce_base.specs.Texts.{entry}
use Rattle.element_names.specs.declared.natives.Native.TheVariants.{Select}
use Rattle.element_names.specs.declared.input_kinds.InputKind.TheVariants.{Hidden}
use Rattle.node_trees.specs.Trees.{Trees, is_number}
use Rattle.form_controls.specs.declared.value.Value.{Value}
use Rattle.form_controls.specs.declared.value.Value.TheVariants.{Nothing, One, Many}
use Rattle.form_controls.specs.declared.control.Control.{Control}
use Rattle.form_controls.specs.declared.internals.Internals.{Internals}
use Rattle.form_controls.specs.Kinds.{is_a, has_kind, is_button, is_tickable, name_of}
use Rattle.form_controls.specs.Owners.{Forms, is_associated, is_submittable, controls_of}
use Rattle.form_controls.specs.Disabled.{is_disabled, is_option_disabled}
use Rattle.form_controls.specs.Texts.{is_empty}
use Rattle.form_controls.specs.Options.{chosen, option_value}
use Rattle.form_controls.specs.Values.{value}
use Rattle.form_controls.specs.Checkedness.{is_checked}
use Rattle.form_controls.specs.Internals.{kept_by}
use Rattle.form_controls.specs.Barred.{is_in_datalist}

-- who is passed over

-- descendants of a datalist, disabled elements, buttons other than the submitter, checkboxes and radio buttons that are not checked
abbrev pub is_skipped : Forms → List Control → Option ℕ → ℕ → Bool
is_skipped f controls submitter n =
    is_in_datalist f.forest n
    || is_disabled f n
    || (is_button f.forest n && not (is_number submitter n))
    || (is_tickable f.forest n && not (is_checked f controls n))

-- what an element gives

-- a form-associated custom element, by its submission value: a list stands for itself, a text wants a name
abbrev pub custom_entries : List ℕ → Value → List Entry
custom_entries name Nothing = []
custom_entries name (One text) = if is_empty name then [] else entry name text ∷ []
custom_entries name (Many entries) = entries

-- one entry for each chosen option that is not disabled
abbrev pub select_entries : Trees → List Control → ℕ → List Entry
select_entries forest controls n =
    map (λ option. entry (name_of forest n) (option_value forest option))
    (filter (λ option. not (is_option_disabled forest option)) (chosen controls forest n))

-- a hidden input of this name tells the encoding of the texts
abbrev pub is_charset : Trees → ℕ → Bool
is_charset forest n = has_kind Hidden forest n && str_eq_ignore_ascii_case (name_of forest n) (codes "_charset_")

-- an element of HTML that has a name
abbrev pub native_entries : Trees → List Control → ℕ → List Entry
native_entries forest controls n =
    if is_a Select forest n then select_entries forest controls n
    else if is_charset forest n then entry (name_of forest n) (codes "UTF-8") ∷ []
    else entry (name_of forest n) (value controls forest n) ∷ []

abbrev pub entries_at : Forms → List Control → List (Option Internals) → ℕ → List Entry
entries_at f controls internals n =
    if is_associated f n then custom_entries (name_of f.forest n) (kept_by internals n).value
    else if is_empty (name_of f.forest n) then []
    else native_entries f.forest controls n

-- the list

-- who gives entries: the submittable elements of a form, in tree order
abbrev pub entry_givers : Forms → List Control → ℕ → Option ℕ → List ℕ
entry_givers f controls form submitter =
    filter (λ n. is_submittable f n && not (is_skipped f controls submitter n)) (controls_of f form)

-- "construct the entry list"
abbrev pub entry_list : Forms → List Control → List (Option Internals) → ℕ → Option ℕ → List Entry
entry_list f controls internals form submitter = flat_map (entries_at f controls internals) (entry_givers f controls form submitter)
