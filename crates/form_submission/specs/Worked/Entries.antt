-- A form whose controls give entries, or are passed over.
use Rattle.std.specs.Prelude.{ℕ, List, [], ◌∷◌, codes, Option}
use Rattle.ce_base.specs.declared.entries.Entry.{Entry}
use Rattle.node_trees.specs.Trees.{Trees}
use Rattle.form_controls.specs.declared.internals.Internals.{Internals}
use Rattle.form_controls.specs.declared.value.Value.TheVariants.{One, Many}
use Rattle.form_controls.specs.Internals.{attach, set_form_value}
use Rattle.form_controls.specs.Worked.Pages.{element, html}
use Rattle.ce_base.specs.Texts.{entry}

-- a name, and a type with a name

abbrev pub named : List ℕ → List (List ℕ × List ℕ)
named name = (codes "name", name) ∷ []

abbrev pub typed : List ℕ → List ℕ → List (List ℕ × List ℕ)
typed kind name = (codes "type", kind) ∷ (codes "name", name) ∷ []

-- an empty text, one without a name, one that is disabled, one in a datalist; a checkbox that is checked and one that is not; a button; a
-- select of which two options have `selected`, one of them disabled; a hidden input of the encoding's name; three form-associated
-- custom elements; a button that resets, a fieldset, a text of the encoding's name
abbrev pub mixed : Trees
mixed =
    html
    (element 3 (codes "form") []
    (element 4 (codes "input") (named (codes "a")) []
    ∷ element 5 (codes "input") [] []
    ∷ element 6 (codes "input") ((codes "disabled", []) ∷ named (codes "b")) []
    ∷ element 7 (codes "datalist") [] (element 8 (codes "input") (named (codes "c")) [] ∷ [])
    ∷ element 9 (codes "input") ((codes "checked", []) ∷ typed (codes "checkbox") (codes "d")) []
    ∷ element 10 (codes "input") (typed (codes "checkbox") (codes "e")) []
    ∷ element 11 (codes "button") (named (codes "f")) []
    ∷ element 12 (codes "select") ((codes "multiple", []) ∷ named (codes "g"))
    (element 13 (codes "option") ((codes "selected", []) ∷ (codes "value", codes "1") ∷ []) []
    ∷ element 14 (codes "option") ((codes "selected", []) ∷ (codes "disabled", []) ∷ (codes "value", codes "2") ∷ []) [] ∷ [])
    ∷ element 15 (codes "input") (typed (codes "hidden") (codes "_CHARSET_")) []
    ∷ element 16 (codes "x-a") [] []
    ∷ element 17 (codes "x-a") [] []
    ∷ element 18 (codes "x-a") (named (codes "h")) []
    ∷ element 19 (codes "button") (typed (codes "reset") (codes "i")) []
    ∷ element 20 (codes "fieldset") (named (codes "j")) []
    ∷ element 21 (codes "input") ((codes "value", codes "z") ∷ named (codes "_charset_")) [] ∷ []) ∷ [])
    []

-- a text, which wants a name; a list, which wants none; no internals
abbrev pub kept : List (Option Internals)
kept =
    set_form_value
    (attach (set_form_value (attach [] 16) 16 (One (codes "x")) (One (codes "x"))) 17)
    17 (Many (entry [] (codes "y") ∷ [])) (Many [])

abbrev pub given : List Entry
given =
    entry (codes "a") []
    ∷ entry (codes "d") (codes "on")
    ∷ entry (codes "g") (codes "1")
    ∷ entry (codes "_CHARSET_") (codes "UTF-8")
    ∷ entry [] (codes "y")
    ∷ entry (codes "_charset_") (codes "z")
    ∷ []

-- the button as the submitter, whose value is empty, stands among them
abbrev pub given_to_button : List Entry
given_to_button =
    entry (codes "a") []
    ∷ entry (codes "d") (codes "on")
    ∷ entry (codes "f") []
    ∷ entry (codes "g") (codes "1")
    ∷ entry (codes "_CHARSET_") (codes "UTF-8")
    ∷ entry [] (codes "y")
    ∷ entry (codes "_charset_") (codes "z")
    ∷ []
