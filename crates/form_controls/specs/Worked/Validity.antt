-- A control as it gets more constraints.
use Rattle.std.specs.Prelude.{[], ◌∷◌, codes}
use Rattle.node_trees.specs.Trees.{Trees}
use Rattle.form_controls.specs.Worked.Pages.{element, page}

-- a required input, in a form that stands nowhere
abbrev pub required : Trees
required = page [] (element 2 (codes "form") [] (element 3 (codes "input") ((codes "required", []) ∷ []) [] ∷ []) ∷ [])

-- with `minlength`
abbrev pub with_minimum : Trees
with_minimum =
    page
    []
    (element 2 (codes "form") []
    (element 3 (codes "input") ((codes "required", []) ∷ (codes "minlength", codes "3") ∷ []) [] ∷ []) ∷ [])

-- and with `maxlength`
abbrev pub with_both : Trees
with_both =
    page
    []
    (element 2 (codes "form") []
    (element 3 (codes "input") ((codes "required", []) ∷ (codes "minlength", codes "3") ∷ (codes "maxlength", codes "1") ∷ []) [] ∷ []) ∷ [])

-- and with `readonly`
abbrev pub readonly : Trees
readonly =
    page
    []
    (element 2 (codes "form") []
    (element 3 (codes "input")
    ((codes "required", []) ∷ (codes "minlength", codes "3") ∷ (codes "maxlength", codes "1") ∷ (codes "readonly", []) ∷ []) [] ∷ []) ∷ [])
