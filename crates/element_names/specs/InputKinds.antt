-- What the `type` attribute makes of an input, or of a button. Case does not count among ASCII letters.
use Rattle.std.specs.Prelude.{ℕ, Bool, ◌==◌, ◌||◌, if◌then◌else◌, List, codes, Option, None, Some}
use Rattle.std.specs.Str.{str_eq_ignore_ascii_case}
use Rattle.element_names.specs.declared.input_kinds.InputKind.{InputKind}
use Rattle.element_names.specs.declared.input_kinds.InputKind.TheVariants.{Text, Hidden, Checkbox, Radio, Submit, Reset, Button}

-- a button that does nothing by itself; a file and an image are read as one
abbrev pub is_plain_button : List ℕ → Bool
is_plain_button s =
    (str_eq_ignore_ascii_case s (codes "button") || str_eq_ignore_ascii_case s (codes "file"))
    || str_eq_ignore_ascii_case s (codes "image")

-- the kind that a type is; one that is not listed is a text
abbrev pub kind_of_type : List ℕ → InputKind
kind_of_type s =
    if str_eq_ignore_ascii_case s (codes "hidden") then Hidden
    else if str_eq_ignore_ascii_case s (codes "checkbox") then Checkbox
    else if str_eq_ignore_ascii_case s (codes "radio") then Radio
    else if str_eq_ignore_ascii_case s (codes "submit") then Submit
    else if str_eq_ignore_ascii_case s (codes "reset") then Reset
    else if is_plain_button s then Button
    else Text

-- the kind of an input, by its `type` attribute (HTML Standard, section "The input element", "type")
abbrev pub input_kind : Option (List ℕ) → InputKind
input_kind None = Text
input_kind (Some s) = kind_of_type s

abbrev pub button_kind_of_type : List ℕ → InputKind
button_kind_of_type s =
    if str_eq_ignore_ascii_case s (codes "reset") then Reset
    else if str_eq_ignore_ascii_case s (codes "button") then Button
    else Submit

-- the kind of a button element, by its `type` attribute (HTML Standard, section "The button element", "type")
abbrev pub button_kind : Option (List ℕ) → InputKind
button_kind None = Submit
button_kind (Some s) = button_kind_of_type s

-- each has a place of its own, in the order in which they are declared
abbrev pub kind_place : InputKind → ℕ
kind_place Text = 0
kind_place Hidden = 1
kind_place Checkbox = 2
kind_place Radio = 3
kind_place Submit = 4
kind_place Reset = 5
kind_place Button = 6

-- both are the same
abbrev pub same_kind : InputKind → InputKind → Bool
same_kind a b = kind_place a == kind_place b
