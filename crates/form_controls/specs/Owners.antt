-- Form owners (HTML Standard, section "Association of controls and forms"), as a function of the trees.
use Rattle.std.specs.Prelude.{ℕ, Bool, true, false, not, ◌&&◌, ◌||◌, ◌==◌, if◌then◌else◌, List, [], ◌∷◌, ◌++◌, codes, filter, find, Option, Some, None}
use Rattle.element_names.specs.declared.natives.Native.{Native}
use Rattle.element_names.specs.declared.natives.Native.TheVariants.{Form, Fieldset, Button, Input, Select, Textarea}
use Rattle.node_trees.specs.Trees.{Trees, none, tree, is_number}
use Rattle.node_trees.specs.Spots.{attribute_at}
use Rattle.node_trees.specs.Paths.{is_among, root_at, connected}
use Rattle.node_trees.specs.Orders.{tree_order_of}
use Rattle.node_trees.specs.Ids.{first_with_id}
use Rattle.form_controls.specs.Kinds.{native_at, is_a}

-- what form owners are read off
pub record Forms : Type 0 where
  pub forest : Trees  -- all nodes
  pub associated : List ℕ  -- the form-associated custom elements among them (section "Core concepts")

-- which elements have a form owner

abbrev pub is_listed_native : Native → Bool
is_listed_native Button = true
is_listed_native Fieldset = true
is_listed_native Input = true
is_listed_native Select = true
is_listed_native Textarea = true
is_listed_native element = false

-- a form-associated custom element
abbrev pub is_associated : Forms → ℕ → Bool
is_associated f n = is_among n f.associated

-- "listed" (section "Categories")
abbrev pub is_listed : Forms → ℕ → Bool
is_listed f n = is_listed_native (native_at f.forest n) || is_associated f n

-- "submittable" (section "Categories")
abbrev pub is_submittable : Forms → ℕ → Bool
is_submittable f n = is_listed f n && not (is_a Fieldset f.forest n)

-- what is above a node

-- what is above n, the nearest first, in a list of trees below these nodes; above the root of a shadow tree there is nothing
abbrev pub ancestors_below : List ℕ → ℕ → Trees → List ℕ
ancestors_below above n none = []
ancestors_below above n (tree m x shadow children rest) =
    if m == n then above
    else ancestors_below [] n shadow ++ ancestors_below (m ∷ above) n children ++ ancestors_below above n rest

-- the ancestors of n in its own tree, the nearest first (DOM Standard, section "Trees", "ancestor")
abbrev pub ancestors : Trees → ℕ → List ℕ
ancestors forest n = ancestors_below [] n forest

-- the form owner

abbrev pub where_form : Trees → Option ℕ → Option ℕ
where_form forest None = None
where_form forest (Some n) = if is_a Form forest n then Some n else None

-- the first element of n's tree that has this id, where that is a form
abbrev pub named_form : Trees → ℕ → List ℕ → Option ℕ
named_form forest n id = where_form forest (first_with_id forest (root_at forest n) id)

-- the nearest form above n
abbrev pub nearest_form : Trees → ℕ → Option ℕ
nearest_form forest n = find (is_a Form forest) (ancestors forest n)

-- by the `form` attribute, which counts where n is connected
abbrev pub owner_by : Trees → ℕ → Option (List ℕ) → Option ℕ
owner_by forest n None = nearest_form forest n
owner_by forest n (Some id) = if connected forest n then named_form forest n id else nearest_form forest n

-- the form owner of a listed element, where it has one ("reset the form owner")
abbrev pub form_owner : Forms → ℕ → Option ℕ
form_owner f n = if is_listed f n then owner_by f.forest n (attribute_at f.forest n (codes "form")) else None

-- whether this form is the form owner of n
abbrev pub is_owned_by : Forms → ℕ → ℕ → Bool
is_owned_by f form n = is_number (form_owner f n) form

-- the listed elements whose form owner a form is, in tree order (section "The form element", `elements`, with image buttons among them)
abbrev pub controls_of : Forms → ℕ → List ℕ
controls_of f form = filter (is_owned_by f form) (tree_order_of f.forest (root_at f.forest form))
