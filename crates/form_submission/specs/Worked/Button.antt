-- A form that a button submits.
use Rattle.std.specs.Prelude.{[], ◌∷◌, codes}
use Rattle.node_trees.specs.Trees.{Trees}
use Rattle.form_controls.specs.Worked.Pages.{element, html}

-- a text input, a password, a checkbox, a select with two options, a form-associated custom element and a submit button
abbrev pub rating : Trees
rating =
    html
    (element 3 (codes "form") ((codes "method", codes "post") ∷ (codes "action", codes "/send?x=1") ∷ [])
    (element 4 (codes "input") ((codes "name", codes "full name") ∷ []) []
    ∷ element 5 (codes "input") ((codes "type", codes "password") ∷ (codes "name", codes "pw") ∷ []) []
    ∷ element 6 (codes "input") ((codes "type", codes "checkbox") ∷ (codes "name", codes "news") ∷ (codes "checked", []) ∷ []) []
    ∷ element 7 (codes "select") ((codes "name", codes "size") ∷ [])
    (element 8 (codes "option") ((codes "value", codes "M") ∷ []) []
    ∷ element 9 (codes "option") ((codes "value", codes "L&XL") ∷ []) [] ∷ [])
    ∷ element 10 (codes "x-rating") ((codes "name", codes "rating") ∷ (codes "stars", codes "4") ∷ []) []
    ∷ element 11 (codes "button") ((codes "name", codes "go") ∷ (codes "value", codes "Send") ∷ []) [] ∷ []) ∷ [])
    []
