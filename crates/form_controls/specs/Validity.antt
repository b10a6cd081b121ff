-- Validity flags, and the controls that are invalid (HTML Standard, sections "Constraints", "The constraint validation API").
use Rattle.std.specs.Prelude.{ℕ, Bool, false, not, ◌&&◌, ◌||◌, if◌then◌else◌, List, [], ◌∷◌, codes, filter, length, nat_lt, Option, Some, None, is_none}
use Rattle.std.specs.List.{list_any}
use Rattle.ce_base.specs.declared.flags.Flags.{Flags}
use Rattle.ce_base.specs.Digits.{number_in}
use Rattle.element_names.specs.declared.natives.Native.TheVariants.{Select}
use Rattle.element_names.specs.declared.input_kinds.InputKind.TheVariants.{Checkbox, Radio}
use Rattle.node_trees.specs.Trees.{Trees, is_number}
use Rattle.node_trees.specs.Spots.{attribute_at, parent_at, first_of}
use Rattle.form_controls.specs.Kinds.{is_a, has_kind, has_attribute, is_text_control}
use Rattle.form_controls.specs.Owners.{Forms, is_associated, is_submittable, controls_of}
use Rattle.form_controls.specs.declared.control.Control.{Control}
use Rattle.form_controls.specs.Controls.{is_edited, message_at}
use Rattle.form_controls.specs.Texts.{is_empty, units_of}
use Rattle.form_controls.specs.Options.{options_of, is_multiple, chosen, option_value}
use Rattle.form_controls.specs.Values.{value}
use Rattle.form_controls.specs.Checkedness.{group_of, checked_of, is_checked}
use Rattle.form_controls.specs.declared.internals.Internals.{Internals}
use Rattle.form_controls.specs.Internals.{flags_of, kept_by, is_raised}
use Rattle.form_controls.specs.Barred.{will_validate}

-- "suffering from being missing" (sections "The required attribute", "Radio Button state (type=radio)", "The select element")

abbrev pub is_required : Trees → ℕ → Bool
is_required forest n = has_attribute forest n (codes "required")

-- some member of a radio button's group is required, and none is checked
abbrev pub lacks_check : Forms → List Control → ℕ → Bool
lacks_check f controls radio = list_any (is_required f.forest) (group_of f radio) && is_none (checked_of f controls radio)

-- an option is the first of its select, its child, and empty ("placeholder label option")
abbrev pub is_placeholder : Trees → ℕ → Option ℕ → Bool
is_placeholder forest select None = false
is_placeholder forest select (Some option) =
    is_number (first_of (options_of forest select)) option
    && is_number (parent_at forest option) select
    && is_empty (option_value forest option)

-- no option of a select is chosen; or, where one alone can be, the placeholder is
abbrev pub lacks_choice : List Control → Trees → ℕ → Bool
lacks_choice controls forest select =
    is_none (first_of (chosen controls forest select))
    || (not (is_multiple forest select) && is_placeholder forest select (first_of (chosen controls forest select)))

abbrev pub is_missing : Forms → List Control → ℕ → Bool
is_missing f controls n =
    if is_text_control f.forest n then is_required f.forest n && is_empty (value controls f.forest n)
    else if has_kind Checkbox f.forest n then is_required f.forest n && not (is_checked f controls n)
    else if has_kind Radio f.forest n then lacks_check f controls n
    else if is_a Select f.forest n then is_required f.forest n && lacks_choice controls f.forest n
    else false

-- "suffering from being too long", "suffering from being too short" (sections "Limiting user input length: the maxlength attribute",
-- "Setting minimum input length requirements: the minlength attribute")

-- "maximum allowed value length", "minimum allowed value length": one to nine ASCII digits are a limit; any other text is none
abbrev pub limit_in : Option (List ℕ) → Option ℕ
limit_in None = None
limit_in (Some text) = number_in text

abbrev pub is_above : ℕ → Option ℕ → Bool
is_above n None = false
is_above n (Some limit) = nat_lt limit n

abbrev pub is_below : ℕ → Option ℕ → Bool
is_below n None = false
is_below n (Some limit) = nat_lt n limit

-- a text control whose value the user set last
abbrev pub is_edited_text : List Control → Trees → ℕ → Bool
is_edited_text controls forest n = is_text_control forest n && is_edited controls n

abbrev pub is_too_long : List Control → Trees → ℕ → Bool
is_too_long controls forest n =
    is_edited_text controls forest n
    && is_above (units_of (value controls forest n)) (limit_in (attribute_at forest n (codes "maxlength")))

abbrev pub is_too_short : List Control → Trees → ℕ → Bool
is_too_short controls forest n =
    is_edited_text controls forest n
    && not (is_empty (value controls forest n))
    && is_below (units_of (value controls forest n)) (limit_in (attribute_at forest n (codes "minlength")))

-- flags

-- "suffering from a custom error"
abbrev pub has_message : List Control → ℕ → Bool
has_message controls n = not (is_empty (message_at controls n))

-- valueMissing, tooLong, tooShort and customError; an element of HTML has no other
abbrev pub native_flags : Forms → List Control → ℕ → Flags
native_flags f controls n = flags_of (
    is_missing f controls n
    ∷ false
    ∷ false
    ∷ is_too_long controls f.forest n
    ∷ is_too_short controls f.forest n
    ∷ false
    ∷ false
    ∷ false
    ∷ false
    ∷ has_message controls n
    ∷ [])

-- the validity flags of a submittable element: a form-associated custom element has those of its internals
abbrev pub flags : Forms → List Control → List (Option Internals) → ℕ → Flags
flags f controls internals n = if is_associated f n then (kept_by internals n).flags else native_flags f controls n

-- and its message
abbrev pub message_of : Forms → List Control → List (Option Internals) → ℕ → List ℕ
message_of f controls internals n = if is_associated f n then (kept_by internals n).message else message_at controls n

-- a control that is validated, and has a flag (one without a flag "satisfies its constraints")
abbrev pub is_invalid : Forms → List Control → List (Option Internals) → ℕ → Bool
is_invalid f controls internals n = is_submittable f n && will_validate f n && is_raised (flags f controls internals n)

-- the invalid controls of a form, in tree order ("statically validate the constraints")
abbrev pub invalid_controls : Forms → List Control → List (Option Internals) → ℕ → List ℕ
invalid_controls f controls internals form = filter (is_invalid f controls internals) (controls_of f form)
