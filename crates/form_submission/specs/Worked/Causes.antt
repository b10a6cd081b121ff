-- Forms that are sent or blocked by what they say.
use Rattle.std.specs.Prelude.{ℕ, List, [], ◌∷◌, codes}
use Rattle.node_trees.specs.Trees.{Trees}
use Rattle.form_controls.specs.Worked.Pages.{element, host, html, page}

-- a URL with a query and a fragment
abbrev pub full_page : List ℕ
full_page = codes "http://page.test/d/e?k=v#top"

-- a form with a text input and a button that says more
abbrev pub form : List (List ℕ × List ℕ) → List (List ℕ × List ℕ) → Trees
form its of_button =
    element 3 (codes "form") its
    (element 4 (codes "input") ((codes "name", codes "a") ∷ (codes "value", codes "1") ∷ []) []
    ∷ element 5 (codes "button") of_button [] ∷ [])

abbrev pub form_in_page : List (List ℕ × List ℕ) → List (List ℕ × List ℕ) → Trees
form_in_page its of_button = html (form its of_button ∷ []) []

-- it stands nowhere
abbrev pub form_apart : Trees
form_apart = html [] (form [] [] ∷ [])

-- it stands in a shadow tree of the page
abbrev pub form_in_shadow : Trees
form_in_shadow = page (host 2 (codes "p") [] 6 (form [] [] ∷ []) [] ∷ []) []

-- its input is required, and it has `novalidate`
abbrev pub form_unchecked : Trees
form_unchecked =
    html
    (element 3 (codes "form") ((codes "novalidate", []) ∷ [])
    (element 4 (codes "input") ((codes "name", codes "a") ∷ (codes "required", []) ∷ []) [] ∷ []) ∷ [])
    []

-- two forms; the button names the second by its `form` attribute
abbrev pub two_forms : Trees
two_forms =
    html
    (form [] ((codes "form", codes "other") ∷ [])
    ∷ element 6 (codes "form") ((codes "id", codes "other") ∷ []) [] ∷ [])
    []
