-- Pages at whose corners the definitions turn.
use Rattle.std.specs.Prelude.{ℕ, true, false, List, [], ◌∷◌, codes, Option}
use Rattle.ce_base.specs.declared.flags.Flags.{Flags}
use Rattle.node_trees.specs.Trees.{Trees}
use Rattle.form_controls.specs.declared.control.Control.{Control}
use Rattle.form_controls.specs.declared.internals.Internals.{Internals}
use Rattle.form_controls.specs.declared.value.Value.TheVariants.{One}
use Rattle.form_controls.specs.Owners.{Forms}
use Rattle.form_controls.specs.Controls.{set_value, set_flag, set_message}
use Rattle.form_controls.specs.Resetting.{clone_state, reset_controls}
use Rattle.form_controls.specs.Internals.{flags_of, attach, set_form_value, set_validity, add_state, no_flags}
use Rattle.form_controls.specs.Worked.Pages.{element, page}
use Rattle.form_controls.specs.Worked.Told.{with_forest}

-- attributes

abbrev pub has : List ℕ → List (List ℕ × List ℕ) → List (List ℕ × List ℕ)
has name more = (name, []) ∷ more

abbrev pub with : List ℕ → List ℕ → List (List ℕ × List ℕ) → List (List ℕ × List ℕ)
with name value more = (name, value) ∷ more

-- forms in forms: the outer one has a `disabled` attribute, which says nothing
abbrev pub nested : Trees
nested =
    page
    (element 2 (codes "form") (has (codes "disabled") [])
    (element 3 (codes "div") []
    (element 4 (codes "form") [] (element 5 (codes "div") [] (element 6 (codes "input") [] [] ∷ []) ∷ []) ∷ []) ∷ []) ∷ [])
    []

-- controls of many kinds: a text with a value, of at least three letters; the same as a hidden input; a readonly checkbox; a readonly
-- custom element; a textarea; a select with two options
abbrev pub kinds : Trees
kinds =
    page
    (element 2 (codes "form") []
    (element 3 (codes "input") (with (codes "value") (codes "v") (with (codes "minlength") (codes "3") [])) []
    ∷ element 4 (codes "input") (with (codes "type") (codes "Hidden") (with (codes "value") (codes "v") (with (codes "minlength") (codes "3") []))) []
    ∷ element 5 (codes "input") (with (codes "type") (codes "checkbox") (has (codes "readonly") [])) []
    ∷ element 6 (codes "x-a") (has (codes "readonly") []) []
    ∷ element 7 (codes "textarea") [] []
    ∷ element 8 (codes "select") [] (element 9 (codes "option") [] [] ∷ element 10 (codes "option") [] [] ∷ []) ∷ []) ∷ [])
    []

abbrev pub kinds_forms : Forms
kinds_forms = with_forest (6 ∷ []) kinds

-- the user gives the text, the hidden input and the textarea one letter each; the second option is chosen; the text has a message
abbrev pub kinds_set : List Control
kinds_set =
    set_message
    (set_flag (set_value (set_value (set_value [] 3 (codes "w") true) 4 (codes "w") true) 7 (codes "z") true) 10 true)
    3 (codes "no")

abbrev pub kinds_emptied : List Control
kinds_emptied = set_value kinds_set 3 [] true

abbrev pub kinds_reset : List Control
kinds_reset = reset_controls kinds_forms kinds_set 2

-- copies of the text, and of an option, under numbers of other nodes
abbrev pub kinds_cloned : List Control
kinds_cloned = clone_state (clone_state kinds_set kinds 3 7) kinds 10 9

abbrev pub short_with_message : Flags
short_with_message = flags_of (false ∷ false ∷ false ∷ false ∷ true ∷ false ∷ false ∷ false ∷ false ∷ true ∷ [])

abbrev pub message_alone : Flags
message_alone = flags_of (false ∷ false ∷ false ∷ false ∷ false ∷ false ∷ false ∷ false ∷ false ∷ true ∷ [])

-- radio buttons, all with `checked`: of two names, of none, in two forms and in none
abbrev pub radio : ℕ → List (List ℕ × List ℕ) → Trees
radio n more = element n (codes "input") (with (codes "type") (codes "radio") (has (codes "checked") more)) []

abbrev pub groups : Trees
groups =
    page
    (element 2 (codes "html") []
    (element 3 (codes "form") []
    (radio 4 (with (codes "name") (codes "a") []) ∷ radio 5 (with (codes "name") (codes "b") []) ∷ radio 6 [] ∷ radio 7 [] ∷ [])
    ∷ element 8 (codes "form") [] (radio 9 (with (codes "name") (codes "a") []) ∷ [])
    ∷ radio 10 (with (codes "name") (codes "a") []) ∷ []) ∷ [])
    []

-- two of one group of which one is required, and nothing is checked
abbrev pub required_group : Trees
required_group =
    page
    (element 2 (codes "form") []
    (element 3 (codes "input") (with (codes "type") (codes "radio") (with (codes "name") (codes "a") (has (codes "required") []))) []
    ∷ element 4 (codes "input") (with (codes "type") (codes "radio") (with (codes "name") (codes "a") [])) [] ∷ []) ∷ [])
    []

-- a required select whose first option is empty, and in a group
abbrev pub grouped_option : Trees
grouped_option =
    page []
    (element 2 (codes "select") (has (codes "required") [])
    (element 3 (codes "optgroup") [] (element 4 (codes "option") [] [] ∷ []) ∷ []) ∷ [])

-- internals

abbrev pub stated : List (Option Internals)
stated = set_form_value (attach [] 3) 3 (One (codes "v")) (One (codes "s"))

abbrev pub flagged_and_cleared : List (Option Internals)
flagged_and_cleared = set_validity (attach [] 3) 3 no_flags (codes "unheard")

abbrev pub two_words : List (Option Internals)
two_words = add_state (add_state (add_state (attach [] 3) 3 (codes "a")) 3 (codes "b")) 3 (codes "a")
