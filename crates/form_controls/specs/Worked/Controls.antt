-- Controls of several kinds.
use Rattle.std.specs.Prelude.{ℕ, List, [], ◌∷◌, codes}
use Rattle.node_trees.specs.Trees.{Trees}
use Rattle.form_controls.specs.Worked.Pages.{element, html, page, text}

-- two radio buttons of one name in a form, both with `checked`
abbrev pub radios : Trees
radios =
    html
    (element 3 (codes "form") []
    (element 4 (codes "input") ((codes "type", codes "radio") ∷ (codes "name", codes "r") ∷ (codes "checked", []) ∷ []) []
    ∷ element 5 (codes "input") ((codes "type", codes "radio") ∷ (codes "name", codes "r") ∷ (codes "checked", []) ∷ []) [] ∷ []) ∷ [])
    []

-- besides a textarea with a text in it
abbrev pub text_area : Trees
text_area =
    html
    (element 3 (codes "form") []
    (element 4 (codes "input") ((codes "type", codes "radio") ∷ (codes "name", codes "r") ∷ (codes "checked", []) ∷ []) []
    ∷ element 5 (codes "input") ((codes "type", codes "radio") ∷ (codes "name", codes "r") ∷ (codes "checked", []) ∷ []) [] ∷ []) ∷ [])
    (element 6 (codes "textarea") [] (text 7 (97 ∷ 13 ∷ 10 ∷ 98 ∷ 13 ∷ 99 ∷ []) ∷ []) ∷ [])

-- which is disabled
abbrev pub disabled_text_area : Trees
disabled_text_area =
    html
    (element 3 (codes "form") []
    (element 4 (codes "input") ((codes "type", codes "radio") ∷ (codes "name", codes "r") ∷ (codes "checked", []) ∷ []) []
    ∷ element 5 (codes "input") ((codes "type", codes "radio") ∷ (codes "name", codes "r") ∷ (codes "checked", []) ∷ []) [] ∷ []) ∷ [])
    (element 6 (codes "textarea") ((codes "disabled", []) ∷ []) (text 7 (97 ∷ 13 ∷ 10 ∷ 98 ∷ 13 ∷ 99 ∷ []) ∷ []) ∷ [])

-- besides a select with one option, which has a text
abbrev pub select : Trees
select =
    html
    (element 3 (codes "form") []
    (element 4 (codes "input") ((codes "type", codes "radio") ∷ (codes "name", codes "r") ∷ (codes "checked", []) ∷ []) []
    ∷ element 5 (codes "input") ((codes "type", codes "radio") ∷ (codes "name", codes "r") ∷ (codes "checked", []) ∷ []) [] ∷ []) ∷ [])
    (element 6 (codes "textarea") ((codes "disabled", []) ∷ [])
    (text 7 (97 ∷ 13 ∷ 10 ∷ 98 ∷ 13 ∷ 99 ∷ []) ∷ [])
    ∷ element 8 (codes "select") [] (element 9 (codes "option") [] (text 10 (codes "  two   words ") ∷ []) ∷ []) ∷ [])

-- a required select: an empty option, a disabled group with an option that has `selected`, and one more
abbrev pub options : List (List ℕ × List ℕ) → Trees
options more =
    page []
    (element 2 (codes "select") ((codes "required", []) ∷ more)
    (element 3 (codes "option") [] []
    ∷ element 4 (codes "optgroup") ((codes "disabled", []) ∷ [])
    (element 5 (codes "option") ((codes "value", codes "a") ∷ (codes "selected", []) ∷ []) [] ∷ [])
    ∷ element 6 (codes "option") ((codes "value", codes "b") ∷ []) [] ∷ []) ∷ [])

abbrev pub one_option : Trees
one_option = options []

-- of which several can be chosen
abbrev pub many_options : Trees
many_options = options ((codes "multiple", []) ∷ [])

-- which is disabled as a whole
abbrev pub disabled_options : Trees
disabled_options = options ((codes "disabled", []) ∷ [])
