-- The custom element registry: the definitions in the order of defining (HTML Standard, section "The CustomElementRegistry interface").
use Rattle.std.specs.Prelude.{ℕ, Bool, true, false, ◌&&◌, ◌==◌, not, if◌then◌else◌, List, Option, Some, None, bytes_eq, is_some}
use Rattle.std.specs.List.{list_any, position}
use Rattle.std.specs.Option.{option_or}
use Rattle.ce_base.specs.declared.fault.Fault.{Fault}
use Rattle.ce_base.specs.declared.fault.Fault.TheVariants.{NotSupportedError, SyntaxError}
use Rattle.element_names.specs.Names.{custom_name}
use Rattle.element_names.specs.Known.{known_html}
use Rattle.ce_registry.specs.declared.definition.Definition.{Definition}

-- the number of the definition with this name, which is its place
abbrev pub by_name : List Definition → List ℕ → Option ℕ
by_name ds name = position (λ (d : Definition). bytes_eq d.name name) ds

-- the definition with this class
abbrev pub by_class : List Definition → ℕ → Option ℕ
by_class ds class = position (λ (d : Definition). d.class == class) ds

-- an element can be extended where it is one of HTML's, and no custom element's
abbrev pub may_extend : Option (List ℕ) → Bool
may_extend None = true
may_extend (Some base) = not (custom_name base) && known_html base

-- why a definition is refused, the first that holds: the name is no custom element's; a definition has the name; a
-- definition has the class; what it extends can't be extended (`define`)
abbrev pub may_define : List Definition → List ℕ → ℕ → Option (List ℕ) → Option Fault
may_define ds name class base =
    if not (custom_name name) then Some SyntaxError
    else if is_some (by_name ds name) then Some NotSupportedError
    else if is_some (by_class ds class) then Some NotSupportedError
    else if not (may_extend base) then Some NotSupportedError
    else None

-- a definition's local name is that of the element that it extends, else its name
abbrev pub local_of : List ℕ → Option (List ℕ) → List ℕ
local_of name None = name
local_of name (Some base) = base

-- a definition that extends no element (HTML Standard, section "Core concepts", "autonomous custom element")
abbrev pub is_autonomous : Definition → Bool
is_autonomous d = bytes_eq d.local d.name

-- the `is` value of the elements that it is for: an autonomous custom element has none
abbrev pub is_value_of : Definition → Option (List ℕ)
is_value_of d = if is_autonomous d then None else Some d.name

-- the definition with this name and this local name
abbrev pub by_names : List Definition → List ℕ → List ℕ → Option ℕ
by_names ds name local = position (λ (d : Definition). bytes_eq d.name name && bytes_eq d.local local) ds

-- the definition whose name is the `is` value, where there is one, and which has this local name
abbrev pub by_is_value : List Definition → Option (List ℕ) → List ℕ → Option ℕ
by_is_value ds None local = None
by_is_value ds (Some value) local = by_names ds value local

-- Look up a custom element definition: none where the document is not the page's; else the one whose name and local
-- name both are the local name; else the one whose name is the `is` value and whose local name is the local name (HTML
-- Standard, section "Core concepts")
abbrev pub lookup : List Definition → Bool → List ℕ → Option (List ℕ) → Option ℕ
lookup ds false local is = None
lookup ds true local is = option_or (by_names ds local local) (by_is_value ds is local)

-- the definition observes the attribute's name, where there is one
abbrev pub observes : Option Definition → List ℕ → Bool
observes None name = false
observes (Some d) name = list_any (λ observed. bytes_eq observed name) d.facts.observed
