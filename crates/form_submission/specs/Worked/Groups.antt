-- Radio buttons of one name in a form.
use Rattle.std.specs.Prelude.{[], ◌∷◌, codes}
use Rattle.node_trees.specs.Trees.{Trees}
use Rattle.form_controls.specs.Worked.Pages.{element, html}

-- two, both with `checked`
abbrev pub pair : Trees
pair =
    html
    (element 3 (codes "form") []
    (element 4 (codes "input") ((codes "type", codes "radio") ∷ (codes "name", codes "r") ∷ (codes "value", codes "1") ∷ (codes "checked", []) ∷ []) []
    ∷ element 5 (codes "input")
    ((codes "type", codes "radio") ∷ (codes "name", codes "r") ∷ (codes "value", codes "2") ∷ (codes "checked", []) ∷ []) [] ∷ []) ∷ [])
    []

-- and a hidden input that tells the encoding
abbrev pub with_charset : Trees
with_charset =
    html
    (element 3 (codes "form") []
    (element 4 (codes "input") ((codes "type", codes "radio") ∷ (codes "name", codes "r") ∷ (codes "value", codes "1") ∷ (codes "checked", []) ∷ []) []
    ∷ element 5 (codes "input") ((codes "type", codes "radio") ∷ (codes "name", codes "r") ∷ (codes "value", codes "2") ∷ (codes "checked", []) ∷ []) []
    ∷ element 6 (codes "input") ((codes "type", codes "hidden") ∷ (codes "name", codes "_Charset_") ∷ []) [] ∷ []) ∷ [])
    []
