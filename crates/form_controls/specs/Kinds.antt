-- What a node is to forms, by its local name and its attributes.
use Rattle.std.specs.Prelude.{ℕ, Bool, false, ◌||◌, List, [], codes, Option, Some, None, is_some, unwrap_or}
use Rattle.element_names.specs.declared.natives.Native.{Native}
use Rattle.element_names.specs.declared.natives.Native.TheVariants.{Button, Input, Textarea}
use Rattle.element_names.specs.Natives.{native, same_native}
use Rattle.element_names.specs.declared.input_kinds.InputKind.{InputKind}
use Rattle.element_names.specs.declared.input_kinds.InputKind.TheVariants.{Text, Checkbox, Radio, Submit, Reset, Button as PlainButton}
use Rattle.element_names.specs.InputKinds.{input_kind, button_kind, same_kind}
use Rattle.node_trees.specs.Trees.{Trees}
use Rattle.node_trees.specs.Spots.{facts_at, attribute_at}

-- the element that a node is; what is no element has no local name, and is none that forms are about
abbrev pub native_at : Trees → ℕ → Native
native_at forest n = native (facts_at forest n).local

abbrev pub is_a : Native → Trees → ℕ → Bool
is_a element forest n = same_native element (native_at forest n)

-- the attribute is there, whatever its value is (HTML Standard, section "Boolean attributes")
abbrev pub has_attribute : Trees → ℕ → List ℕ → Bool
has_attribute forest n name = is_some (attribute_at forest n name)

-- the `name` attribute, or the empty text (section "Naming form controls: the name attribute")
abbrev pub name_of : Trees → ℕ → List ℕ
name_of forest n = unwrap_or (attribute_at forest n (codes "name")) []

-- kinds of controls

abbrev pub kind_by : Native → Option (List ℕ) → Option InputKind
kind_by Input text = Some (input_kind text)
kind_by Button text = Some (button_kind text)
kind_by element text = None

-- the kind of an input or a button, by its `type` attribute (sections "The input element", "The button element")
abbrev pub kind_of : Trees → ℕ → Option InputKind
kind_of forest n = kind_by (native_at forest n) (attribute_at forest n (codes "type"))

abbrev pub is_kind : InputKind → Option InputKind → Bool
is_kind kind None = false
is_kind kind (Some other) = same_kind kind other

abbrev pub has_kind : InputKind → Trees → ℕ → Bool
has_kind kind forest n = is_kind kind (kind_of forest n)

-- a text input or a textarea: its value is a text that is edited (HTML Standard, sections "The input element", "The textarea element")
abbrev pub is_text_control : Trees → ℕ → Bool
is_text_control forest n = has_kind Text forest n || is_a Textarea forest n

-- a checkbox or a radio button: it has a checkedness (section "The input element")
abbrev pub is_tickable : Trees → ℕ → Bool
is_tickable forest n = has_kind Checkbox forest n || has_kind Radio forest n

-- "submit button" (section "Categories")
abbrev pub is_submit_button : Trees → ℕ → Bool
is_submit_button forest n = has_kind Submit forest n

-- "button" (section "Categories"): one that submits, one that resets, or one that does nothing by itself
abbrev pub is_button : Trees → ℕ → Bool
is_button forest n = has_kind Submit forest n || has_kind Reset forest n || has_kind PlainButton forest n

-- it can't be edited (section "The readonly attribute")
abbrev pub is_readonly : Trees → ℕ → Bool
is_readonly forest n = has_attribute forest n (codes "readonly")
