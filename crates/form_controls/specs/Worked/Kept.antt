-- What controls and internals keep, step by step.
use Rattle.std.specs.Prelude.{true, false, List, [], ◌∷◌, codes, Option}
use Rattle.ce_base.specs.declared.flags.Flags.{Flags}
use Rattle.form_controls.specs.declared.attach.Attach.{Attach}
use Rattle.form_controls.specs.declared.control.Control.{Control}
use Rattle.form_controls.specs.declared.internals.Internals.{Internals}
use Rattle.form_controls.specs.Owners.{Forms}
use Rattle.form_controls.specs.Controls.{set_value, set_message}
use Rattle.form_controls.specs.Setting.{set_checked, set_chosen}
use Rattle.form_controls.specs.Resetting.{clone_state, reset_controls}
use Rattle.form_controls.specs.Internals.{flags_of, no_flags, attach, set_validity, add_state}
use Rattle.form_controls.specs.Worked.Controls.{radios, one_option, many_options}
use Rattle.form_controls.specs.Worked.Told.{with_forest}

-- radio buttons

abbrev pub radio_forms : Forms
radio_forms = with_forest [] radios

-- the second was cloned from the first
abbrev pub cloned : List Control
cloned = clone_state [] radios 4 5

-- the user sets the first one on
abbrev pub first_on : List Control
first_on = set_checked radio_forms cloned 4 true

-- and resets the form
abbrev pub reset_again : List Control
reset_again = reset_controls radio_forms first_on 3

-- an input

-- the user gives it one character of four bytes
abbrev pub typed : List Control
typed = set_value [] 3 (240 ∷ 159 ∷ 152 ∷ 128 ∷ []) true

-- then a script gives it four letters
abbrev pub written : List Control
written = set_value typed 3 (codes "abcd") false

-- and a message
abbrev pub objected : List Control
objected = set_message written 3 (codes "no good")

-- inputs and a textarea

-- the user edits the textarea
abbrev pub two_letters : List Control
two_letters = set_value [] 9 (codes "ab") true

-- and then an input, and the textarea again
abbrev pub three_letters : List Control
three_letters = set_value (set_value two_letters 4 (codes "x") true) 9 (codes "abc") true

-- options

abbrev pub none_chosen : List Control
none_chosen = set_chosen [] one_option 5 false

abbrev pub both_chosen : List Control
both_chosen = set_chosen [] many_options 6 true

-- elements that want internals

-- an element without a definition
abbrev pub undefined : Attach
undefined = record { has_is = false; found = false; off = false; ready = false }

-- a custom element
abbrev pub custom : Attach
custom = record { has_is = false; found = true; off = false; ready = true }

-- flags

abbrev pub missing : Flags
missing = flags_of (true ∷ false ∷ false ∷ false ∷ false ∷ false ∷ false ∷ false ∷ false ∷ false ∷ [])

abbrev pub missing_and_long : Flags
missing_and_long = flags_of (true ∷ false ∷ false ∷ true ∷ false ∷ false ∷ false ∷ false ∷ false ∷ false ∷ [])

abbrev pub short : Flags
short = flags_of (false ∷ false ∷ false ∷ false ∷ true ∷ false ∷ false ∷ false ∷ false ∷ false ∷ [])

abbrev pub short_and_long : Flags
short_and_long = flags_of (false ∷ false ∷ false ∷ true ∷ true ∷ false ∷ false ∷ false ∷ false ∷ false ∷ [])

abbrev pub objection : Flags
objection = flags_of (false ∷ false ∷ false ∷ false ∷ false ∷ false ∷ false ∷ false ∷ false ∷ true ∷ [])

-- internals that are attached and written

abbrev pub attached : List (Option Internals)
attached = attach [] 3

abbrev pub raised : List (Option Internals)
raised = set_validity attached 3 missing_and_long (codes "fill in")

abbrev pub lowered : List (Option Internals)
lowered = set_validity raised 3 no_flags []

abbrev pub with_word : List (Option Internals)
with_word = add_state lowered 3 (codes "hi")

-- those of another element, which is not form-associated
abbrev pub both : List (Option Internals)
both = attach with_word 4
