-- Form owners that change: the trees after each step.
use Rattle.std.specs.Prelude.{List, [], ◌∷◌, codes}
use Rattle.node_trees.specs.Trees.{Trees}
use Rattle.form_controls.specs.Worked.Pages.{element, html}

-- a form-associated custom element goes into a form, and then names another one, which comes, loses its id to an element before
-- it, gets it back and loses the id itself; the `form` attribute goes, and the first form is taken out
abbrev pub ids : List Trees
ids =
    html (element 3 (codes "form") [] [] ∷ []) (element 4 (codes "x-a") [] [] ∷ [])
    ∷ html (element 3 (codes "form") [] (element 4 (codes "x-a") [] [] ∷ []) ∷ []) []
    ∷ html (element 3 (codes "form") [] (element 4 (codes "x-a") ((codes "form", codes "g") ∷ []) [] ∷ []) ∷ []) []
    ∷ html
    (element 3 (codes "form") [] (element 4 (codes "x-a") ((codes "form", codes "g") ∷ []) [] ∷ []) ∷ [])
    (element 5 (codes "form") [] [] ∷ [])
    ∷ html
    (element 3 (codes "form") [] (element 4 (codes "x-a") ((codes "form", codes "g") ∷ []) [] ∷ []) ∷ [])
    (element 5 (codes "form") ((codes "id", codes "g") ∷ []) [] ∷ [])
    ∷ html
    (element 3 (codes "form") [] (element 4 (codes "x-a") ((codes "form", codes "g") ∷ []) [] ∷ [])
    ∷ element 5 (codes "form") ((codes "id", codes "g") ∷ []) [] ∷ [])
    []
    ∷ html
    (element 3 (codes "form") [] (element 4 (codes "x-a") ((codes "form", codes "g") ∷ []) [] ∷ [])
    ∷ element 5 (codes "form") ((codes "id", codes "g") ∷ []) [] ∷ [])
    (element 6 (codes "p") [] [] ∷ [])
    ∷ html
    (element 3 (codes "form") [] (element 4 (codes "x-a") ((codes "form", codes "g") ∷ []) [] ∷ [])
    ∷ element 5 (codes "form") ((codes "id", codes "g") ∷ []) [] ∷ [])
    (element 6 (codes "p") ((codes "id", codes "g") ∷ []) [] ∷ [])
    ∷ html
    (element 6 (codes "p") ((codes "id", codes "g") ∷ []) []
    ∷ element 3 (codes "form") [] (element 4 (codes "x-a") ((codes "form", codes "g") ∷ []) [] ∷ [])
    ∷ element 5 (codes "form") ((codes "id", codes "g") ∷ []) [] ∷ [])
    []
    ∷ html
    (element 3 (codes "form") [] (element 4 (codes "x-a") ((codes "form", codes "g") ∷ []) [] ∷ [])
    ∷ element 5 (codes "form") ((codes "id", codes "g") ∷ []) [] ∷ [])
    (element 6 (codes "p") ((codes "id", codes "g") ∷ []) [] ∷ [])
    ∷ html
    (element 3 (codes "form") [] (element 4 (codes "x-a") ((codes "form", codes "g") ∷ []) [] ∷ [])
    ∷ element 5 (codes "form") [] [] ∷ [])
    (element 6 (codes "p") ((codes "id", codes "g") ∷ []) [] ∷ [])
    ∷ html
    (element 3 (codes "form") [] (element 4 (codes "x-a") [] [] ∷ []) ∷ element 5 (codes "form") [] [] ∷ [])
    (element 6 (codes "p") ((codes "id", codes "g") ∷ []) [] ∷ [])
    ∷ html
    (element 5 (codes "form") [] [] ∷ [])
    (element 3 (codes "form") [] (element 4 (codes "x-a") [] [] ∷ [])
    ∷ element 6 (codes "p") ((codes "id", codes "g") ∷ []) [] ∷ [])
    ∷ []

-- where it names a form that is not there
abbrev pub named : Trees
named = html (element 3 (codes "form") [] (element 4 (codes "x-a") ((codes "form", codes "g") ∷ []) [] ∷ []) ∷ []) []

-- one names a form in another part of the page, which is taken out; they meet in it and are put back; the id changes, the `form`
-- attribute goes, and a disabled fieldset comes between
abbrev pub moves : List Trees
moves =
    html
    (element 3 (codes "div") [] (element 4 (codes "form") ((codes "id", codes "g") ∷ []) [] ∷ []) ∷ [])
    (element 5 (codes "x-a") [] [] ∷ [])
    ∷ html
    (element 3 (codes "div") [] (element 4 (codes "form") ((codes "id", codes "g") ∷ []) [] ∷ []) ∷ [])
    (element 5 (codes "x-a") ((codes "form", codes "g") ∷ []) [] ∷ [])
    ∷ html
    (element 3 (codes "div") [] (element 4 (codes "form") ((codes "id", codes "g") ∷ []) [] ∷ [])
    ∷ element 5 (codes "x-a") ((codes "form", codes "g") ∷ []) [] ∷ [])
    []
    ∷ html
    (element 5 (codes "x-a") ((codes "form", codes "g") ∷ []) [] ∷ [])
    (element 3 (codes "div") [] (element 4 (codes "form") ((codes "id", codes "g") ∷ []) [] ∷ []) ∷ [])
    ∷ html
    []
    (element 3 (codes "div") [] (element 4 (codes "form") ((codes "id", codes "g") ∷ []) [] ∷ [])
    ∷ element 5 (codes "x-a") ((codes "form", codes "g") ∷ []) [] ∷ [])
    ∷ html
    []
    (element 3 (codes "div") []
    (element 4 (codes "form") ((codes "id", codes "g") ∷ []) []
    ∷ element 5 (codes "x-a") ((codes "form", codes "g") ∷ []) [] ∷ []) ∷ [])
    ∷ html
    []
    (element 3 (codes "div") [] (element 4 (codes "form") ((codes "id", codes "g") ∷ []) [] ∷ [])
    ∷ element 5 (codes "x-a") ((codes "form", codes "g") ∷ []) [] ∷ [])
    ∷ html
    []
    (element 3 (codes "div") []
    (element 4 (codes "form") ((codes "id", codes "g") ∷ [])
    (element 5 (codes "x-a") ((codes "form", codes "g") ∷ []) [] ∷ []) ∷ []) ∷ [])
    ∷ html
    (element 3 (codes "div") []
    (element 4 (codes "form") ((codes "id", codes "g") ∷ [])
    (element 5 (codes "x-a") ((codes "form", codes "g") ∷ []) [] ∷ []) ∷ []) ∷ [])
    []
    ∷ html
    (element 3 (codes "div") []
    (element 4 (codes "form") ((codes "id", codes "k") ∷ [])
    (element 5 (codes "x-a") ((codes "form", codes "g") ∷ []) [] ∷ []) ∷ []) ∷ [])
    []
    ∷ html
    (element 3 (codes "div") []
    (element 4 (codes "form") ((codes "id", codes "k") ∷ []) (element 5 (codes "x-a") [] [] ∷ []) ∷ []) ∷ [])
    []
    ∷ html
    (element 3 (codes "div") []
    (element 4 (codes "form") ((codes "id", codes "k") ∷ []) (element 5 (codes "x-a") [] [] ∷ []) ∷ []) ∷ [])
    (element 6 (codes "fieldset") [] [] ∷ [])
    ∷ html
    (element 3 (codes "div") []
    (element 4 (codes "form") ((codes "id", codes "k") ∷ []) (element 5 (codes "x-a") [] [] ∷ []) ∷ []) ∷ [])
    (element 6 (codes "fieldset") ((codes "disabled", []) ∷ []) [] ∷ [])
    ∷ html
    (element 3 (codes "div") []
    (element 4 (codes "form") ((codes "id", codes "k") ∷ [])
    (element 5 (codes "x-a") [] [] ∷ element 6 (codes "fieldset") ((codes "disabled", []) ∷ []) [] ∷ []) ∷ []) ∷ [])
    []
    ∷ html
    (element 3 (codes "div") []
    (element 4 (codes "form") ((codes "id", codes "k") ∷ [])
    (element 6 (codes "fieldset") ((codes "disabled", []) ∷ []) [] ∷ []) ∷ []) ∷ [])
    (element 5 (codes "x-a") [] [] ∷ [])
    ∷ html
    (element 3 (codes "div") []
    (element 4 (codes "form") ((codes "id", codes "k") ∷ [])
    (element 6 (codes "fieldset") ((codes "disabled", []) ∷ []) (element 5 (codes "x-a") [] [] ∷ []) ∷ []) ∷ []) ∷ [])
    []
    ∷ html
    (element 3 (codes "div") [] [] ∷ [])
    (element 4 (codes "form") ((codes "id", codes "k") ∷ [])
    (element 6 (codes "fieldset") ((codes "disabled", []) ∷ []) (element 5 (codes "x-a") [] [] ∷ []) ∷ []) ∷ [])
    ∷ []

-- where the form was taken out at last
abbrev pub apart : Trees
apart =
    html
    (element 3 (codes "div") [] [] ∷ [])
    (element 4 (codes "form") ((codes "id", codes "k") ∷ [])
    (element 6 (codes "fieldset") ((codes "disabled", []) ∷ []) (element 5 (codes "x-a") [] [] ∷ []) ∷ []) ∷ [])
