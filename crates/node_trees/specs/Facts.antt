-- What is known of one node, beside its number and its place in its tree.
use Rattle.std.specs.Prelude.{ℕ, Bool, true, false, if◌then◌else◌, List, [], ◌∷◌, Option, Some, None, bytes_eq}
use Rattle.node_trees.specs.declared.kind.NodeKind.{NodeKind}
use Rattle.node_trees.specs.declared.kind.NodeKind.TheVariants.{Document, Element, TextNode, ShadowRoot}

-- A part that a kind of node lacks is empty (DOM Standard, sections "Interface Node", "Interface Element", "Interface CharacterData")
pub record Facts : Type 0 where
  pub kind : NodeKind
  pub local : List ℕ  -- an element's local name
  pub is_value : Option (List ℕ)  -- an element's `is` value
  pub chars : List ℕ  -- the characters of a text node
  pub attributes : List (List ℕ × List ℕ)  -- an element's attributes, names and values, in the order in which they came in
  pub document : ℕ  -- the node document

-- kinds

abbrev pub is_document : NodeKind → Bool
is_document Document = true
is_document k = false

abbrev pub is_element : NodeKind → Bool
is_element Element = true
is_element k = false

abbrev pub is_text : NodeKind → Bool
is_text TextNode = true
is_text k = false

abbrev pub is_shadow_root : NodeKind → Bool
is_shadow_root ShadowRoot = true
is_shadow_root k = false

-- new nodes

-- a node of this kind and node document, of which nothing else is known
abbrev pub blank : NodeKind → ℕ → Facts
blank kind document = record { kind = kind; local = []; is_value = None; chars = []; attributes = []; document = document }

abbrev pub new_element : List ℕ → Option (List ℕ) → ℕ → Facts
new_element local is document = record (blank Element document) { local = local; is_value = is }

abbrev pub new_text : List ℕ → ℕ → Facts
new_text chars document = record (blank TextNode document) { chars = chars }

-- attributes, by their names

-- the value of an attribute (DOM Standard, section "Interface Element", "get an attribute by name")
abbrev pub value_in : List (List ℕ × List ℕ) → List ℕ → Option (List ℕ)
value_in [] name = None
value_in (a ∷ rest) name = if bytes_eq a.0 name then Some a.1 else value_in rest name

-- a value set: an attribute that is there keeps its place, another comes last ("set an attribute value")
abbrev pub with_value : List ℕ → List ℕ → List (List ℕ × List ℕ) → List (List ℕ × List ℕ)
with_value name value [] = (name, value) ∷ []
with_value name value (a ∷ rest) = if bytes_eq a.0 name then (name, value) ∷ rest else a ∷ with_value name value rest

-- an attribute taken away ("remove an attribute by name")
abbrev pub without_value : List ℕ → List (List ℕ × List ℕ) → List (List ℕ × List ℕ)
without_value name [] = []
without_value name (a ∷ rest) = if bytes_eq a.0 name then rest else a ∷ without_value name rest
