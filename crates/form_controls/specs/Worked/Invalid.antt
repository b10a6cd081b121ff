-- A form with controls that are barred and controls that are not.
use Rattle.std.specs.Prelude.{[], ◌∷◌, codes}
use Rattle.node_trees.specs.Trees.{Trees}
use Rattle.form_controls.specs.Worked.Pages.{element, html}

-- four required inputs, of which one is readonly, one disabled and one in a datalist; a textarea with `minlength`; a submit button
abbrev pub barred : Trees
barred =
    html
    (element 3 (codes "form") []
    (element 4 (codes "input") ((codes "name", codes "a") ∷ (codes "required", []) ∷ []) []
    ∷ element 5 (codes "input") ((codes "name", codes "a") ∷ (codes "required", []) ∷ (codes "readonly", []) ∷ []) []
    ∷ element 6 (codes "input") ((codes "name", codes "a") ∷ (codes "required", []) ∷ (codes "disabled", []) ∷ []) []
    ∷ element 7 (codes "datalist") []
    (element 8 (codes "input") ((codes "name", codes "a") ∷ (codes "required", []) ∷ []) [] ∷ [])
    ∷ element 9 (codes "textarea") ((codes "name", codes "t") ∷ (codes "minlength", codes "3") ∷ []) []
    ∷ element 10 (codes "button") [] [] ∷ []) ∷ [])
    []

-- the button has `formnovalidate`
abbrev pub unchecked : Trees
unchecked =
    html
    (element 3 (codes "form") []
    (element 4 (codes "input") ((codes "name", codes "a") ∷ (codes "required", []) ∷ []) []
    ∷ element 5 (codes "input") ((codes "name", codes "a") ∷ (codes "required", []) ∷ (codes "readonly", []) ∷ []) []
    ∷ element 6 (codes "input") ((codes "name", codes "a") ∷ (codes "required", []) ∷ (codes "disabled", []) ∷ []) []
    ∷ element 7 (codes "datalist") []
    (element 8 (codes "input") ((codes "name", codes "a") ∷ (codes "required", []) ∷ []) [] ∷ [])
    ∷ element 9 (codes "textarea") ((codes "name", codes "t") ∷ (codes "minlength", codes "3") ∷ []) []
    ∷ element 10 (codes "button") ((codes "formnovalidate", []) ∷ []) [] ∷ []) ∷ [])
    []
