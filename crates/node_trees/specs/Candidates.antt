-- Elements of the shadow-including tree order (DOM Standard, section "Interface ShadowRoot"), each a part of that order as it stands.
use Rattle.std.specs.Prelude.{ℕ, Bool, false, ◌&&◌, List, filter, Option, Some, None, bytes_eq}
use Rattle.node_trees.specs.Facts.{Facts, is_element}
use Rattle.node_trees.specs.Trees.{Trees}
use Rattle.node_trees.specs.Spots.{facts_at, kind_at}
use Rattle.node_trees.specs.Orders.{order_of}

-- the elements among the shadow-including inclusive descendants of n (HTML Standard, section "The CustomElementRegistry interface", `upgrade`)
abbrev pub elements : Trees → ℕ → List ℕ
elements forest n = filter (λ m. is_element (kind_at forest m)) (order_of forest n)

abbrev pub has_is_value : Option (List ℕ) → List ℕ → Bool
has_is_value None value = false
has_is_value (Some is) value = bytes_eq is value

-- an element with this local name and, where one is given, with this `is` value (HTML Standard, section "The CustomElementRegistry interface", `define`)
abbrev pub is_candidate : List ℕ → Option (List ℕ) → Facts → Bool
is_candidate local None x = is_element x.kind && bytes_eq x.local local
is_candidate local (Some value) x = (is_element x.kind && bytes_eq x.local local) && has_is_value x.is_value value

-- these elements among the shadow-including descendants of a document, in their order (the same section)
abbrev pub candidates : List ℕ → Option (List ℕ) → Trees → ℕ → List ℕ
candidates local value forest document = filter (λ n. is_candidate local value (facts_at forest n)) (order_of forest document)
