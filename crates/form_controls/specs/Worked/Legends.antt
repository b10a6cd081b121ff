-- Disabled states that change: the trees after each step.
use Rattle.std.specs.Prelude.{List, [], ◌∷◌, codes}
use Rattle.node_trees.specs.Trees.{Trees}
use Rattle.form_controls.specs.Worked.Pages.{element, host, page}

-- a form-associated custom element in the second legend of a fieldset, which is disabled; then in the first; that one is taken
-- out, the element goes into the other, and the first is put back before it
abbrev pub legends : List Trees
legends =
    page
    []
    (element 2 (codes "fieldset") [] []
    ∷ element 3 (codes "legend") [] []
    ∷ element 4 (codes "legend") [] []
    ∷ element 5 (codes "x-a") [] [] ∷ [])
    ∷ page
    []
    (element 2 (codes "fieldset") [] (element 3 (codes "legend") [] [] ∷ [])
    ∷ element 4 (codes "legend") [] []
    ∷ element 5 (codes "x-a") [] [] ∷ [])
    ∷ page
    []
    (element 2 (codes "fieldset") [] (element 3 (codes "legend") [] [] ∷ element 4 (codes "legend") [] [] ∷ [])
    ∷ element 5 (codes "x-a") [] [] ∷ [])
    ∷ page
    []
    (element 2 (codes "fieldset") []
    (element 3 (codes "legend") [] [] ∷ element 4 (codes "legend") [] (element 5 (codes "x-a") [] [] ∷ []) ∷ []) ∷ [])
    ∷ page
    []
    (element 2 (codes "fieldset") ((codes "disabled", []) ∷ [])
    (element 3 (codes "legend") [] [] ∷ element 4 (codes "legend") [] (element 5 (codes "x-a") [] [] ∷ []) ∷ []) ∷ [])
    ∷ page
    []
    (element 2 (codes "fieldset") ((codes "disabled", []) ∷ [])
    (element 3 (codes "legend") [] [] ∷ element 4 (codes "legend") [] [] ∷ [])
    ∷ element 5 (codes "x-a") [] [] ∷ [])
    ∷ page
    []
    (element 2 (codes "fieldset") ((codes "disabled", []) ∷ [])
    (element 3 (codes "legend") [] (element 5 (codes "x-a") [] [] ∷ []) ∷ element 4 (codes "legend") [] [] ∷ []) ∷ [])
    ∷ page
    []
    (element 2 (codes "fieldset") ((codes "disabled", []) ∷ []) (element 4 (codes "legend") [] [] ∷ [])
    ∷ element 3 (codes "legend") [] (element 5 (codes "x-a") [] [] ∷ []) ∷ [])
    ∷ page
    []
    (element 2 (codes "fieldset") ((codes "disabled", []) ∷ []) (element 4 (codes "legend") [] [] ∷ [])
    ∷ element 3 (codes "legend") [] []
    ∷ element 5 (codes "x-a") [] [] ∷ [])
    ∷ page
    []
    (element 2 (codes "fieldset") ((codes "disabled", []) ∷ [])
    (element 4 (codes "legend") [] (element 5 (codes "x-a") [] [] ∷ []) ∷ [])
    ∷ element 3 (codes "legend") [] [] ∷ [])
    ∷ page
    []
    (element 2 (codes "fieldset") ((codes "disabled", []) ∷ [])
    (element 3 (codes "legend") [] [] ∷ element 4 (codes "legend") [] (element 5 (codes "x-a") [] [] ∷ []) ∷ []) ∷ [])
    ∷ []

-- the last of them
abbrev pub last : Trees
last =
    page
    []
    (element 2 (codes "fieldset") ((codes "disabled", []) ∷ [])
    (element 3 (codes "legend") [] [] ∷ element 4 (codes "legend") [] (element 5 (codes "x-a") [] [] ∷ []) ∷ []) ∷ [])

-- a control in a shadow tree, whose host stands in a form and in a fieldset that is disabled
abbrev pub in_shadow : Trees
in_shadow =
    page
    (element 2 (codes "form") []
    (element 3 (codes "fieldset") ((codes "disabled", []) ∷ [])
    (host 4 (codes "div") [] 5 (element 6 (codes "p") [] (element 7 (codes "input") [] [] ∷ []) ∷ []) [] ∷ []) ∷ []) ∷ [])
    []
