-- The form-associated custom elements of a page, and what form owners and disabled states are read off (HTML Standard,
-- sections "Core concepts" of custom elements and "Form control infrastructure").
use Rattle.std.specs.Prelude.{ℕ, ◌-◌, Bool, false, ◌&&◌, List, filter, length, slice_get, Option, Some, None}
use Rattle.std.specs.List.{range_with_len}
use Rattle.std.specs.Option.{option_and_then}
use Rattle.node_trees.specs.Trees.{Trees}
use Rattle.ce_registry.specs.declared.definition.Definition.{Definition}
use Rattle.ce_registry.specs.Registry.{is_autonomous}
use Rattle.form_controls.specs.Owners as owners
use Rattle.form_controls.specs.Owners.{Forms}
use Rattle.form_controls.specs.Disabled as disabled
use Rattle.ce_algorithms.specs.Page.{Element, Page, or_uncustomized, is_custom, definition_of}

-- "form-associated custom element": one whose definition is autonomous, and of a class that is form-associated
abbrev pub is_form_associated : Option Definition → Bool
is_form_associated None = false
is_form_associated (Some d) = is_autonomous d && d.facts.associated

-- and its custom element state is "custom"
abbrev pub is_custom_form_associated : Page → ℕ → Bool
is_custom_form_associated p n = is_custom p n && is_form_associated (definition_of p n)

-- what form owners are read off, of the parts of a page: its nodes, and which of them are form-associated custom elements

abbrev pub is_associated_in : List Element → List Definition → ℕ → Bool
is_associated_in elements definitions n =
    is_form_associated (option_and_then (slice_get definitions) (or_uncustomized (slice_get elements (n - 1))).definition)

abbrev pub associated_in : List Element → List Definition → List ℕ
associated_in elements definitions = filter (is_associated_in elements definitions) (range_with_len 1 (length elements))

abbrev pub forms_in : List Element → List Definition → Trees → Forms
forms_in elements definitions forest = record { forest = forest; associated = associated_in elements definitions }

abbrev pub forms_of : Page → Forms
forms_of p = forms_in p.elements p.definitions p.forest

-- what is read of one element

-- "form owner" (section "Association of controls and forms")
abbrev pub form_owner : Page → ℕ → Option ℕ
form_owner p n = owners.form_owner (forms_of p) n

-- "disabled" (section "Enabling and disabling form controls: the disabled attribute")
abbrev pub is_disabled : Page → ℕ → Bool
is_disabled p n = disabled.is_disabled (forms_of p) n

-- "listed element" (section "Categories")
abbrev pub is_listed : Page → ℕ → Bool
is_listed p n = owners.is_listed (forms_of p) n

-- "submittable element" (section "Categories")
abbrev pub is_submittable : Page → ℕ → Bool
is_submittable p n = owners.is_submittable (forms_of p) n

-- the listed elements of a form, in tree order (section "The form element", `elements`, with image buttons among them)
abbrev pub controls_of : Page → ℕ → List ℕ
controls_of p form = owners.controls_of (forms_of p) form
