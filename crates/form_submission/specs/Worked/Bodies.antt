-- A form that is submitted by each method and encoding.
use Rattle.std.specs.Prelude.{[], ◌∷◌, codes}
use Rattle.node_trees.specs.Trees.{Trees}
use Rattle.form_controls.specs.Worked.Pages.{element, html}

-- a multipart form without controls
abbrev pub empty : Trees
empty =
    html
    (element 3 (codes "form") ((codes "enctype", codes "multipart/form-data") ∷ (codes "method", codes "POST") ∷ []) [] ∷ [])
    []

-- with a textarea, whose name has a quote and a line end, and a form-associated custom element
abbrev pub filled : Trees
filled =
    html
    (element 3 (codes "form") ((codes "enctype", codes "multipart/form-data") ∷ (codes "method", codes "POST") ∷ [])
    (element 4 (codes "textarea") ((codes "name", 97 ∷ 34 ∷ 10 ∷ []) ∷ []) [] ∷ element 5 (codes "x-l") [] [] ∷ []) ∷ [])
    []

-- of plain text
abbrev pub plain : Trees
plain =
    html
    (element 3 (codes "form") ((codes "enctype", codes "text/plain") ∷ (codes "method", codes "POST") ∷ [])
    (element 4 (codes "textarea") ((codes "name", 97 ∷ 34 ∷ 10 ∷ []) ∷ []) [] ∷ element 5 (codes "x-l") [] [] ∷ []) ∷ [])
    []

-- by GET, and empty again
abbrev pub emptied : Trees
emptied =
    html
    (element 3 (codes "form") ((codes "enctype", codes "text/plain") ∷ (codes "method", codes "get") ∷ []) [] ∷ [])
    (element 4 (codes "textarea") ((codes "name", 97 ∷ 34 ∷ 10 ∷ []) ∷ []) [] ∷ element 5 (codes "x-l") [] [] ∷ [])
