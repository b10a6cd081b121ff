-- The values of controls (HTML Standard, sections "The input element", "The button element", "The textarea element", "The select element").
use Rattle.std.specs.Prelude.{ℕ, ◌^◌, ◌-◌, List, [], ◌∷◌, codes, map, Option, unwrap_or, min}
use Rattle.std.specs.List.{concat}
use Rattle.element_names.specs.declared.natives.Native.{Native}
use Rattle.element_names.specs.declared.natives.Native.TheVariants.{Input, Button, Select, OptionItem, Textarea}
use Rattle.element_names.specs.declared.input_kinds.InputKind.{InputKind}
use Rattle.element_names.specs.declared.input_kinds.InputKind.TheVariants.{Text, Checkbox, Radio}
use Rattle.element_names.specs.InputKinds.{input_kind}
use Rattle.node_trees.specs.Trees.{Trees}
use Rattle.node_trees.specs.Spots.{facts_at, attribute_at, children_at}
use Rattle.form_controls.specs.Kinds.{native_at}
use Rattle.form_controls.specs.declared.control.Control.{Control}
use Rattle.form_controls.specs.Controls.{control_at}
use Rattle.form_controls.specs.Texts.{without_newlines, normalized, units_of}
use Rattle.form_controls.specs.Options.{chosen, option_value}

-- of an input of a kind, by its raw value, where one was set, and its `value` attribute: a text leaves newlines out, and a
-- checkbox or a radio button without the attribute has `on` (modes "value", "default", "default/on")
abbrev pub input_value : InputKind → Option (List ℕ) → Option (List ℕ) → List ℕ
input_value Text raw attribute = without_newlines (unwrap_or raw (unwrap_or attribute []))
input_value Checkbox raw attribute = unwrap_or attribute (codes "on")
input_value Radio raw attribute = unwrap_or attribute (codes "on")
input_value kind raw attribute = unwrap_or attribute []

-- the characters of the texts among the children of n (DOM Standard, section "Interface Text", "child text content")
abbrev pub child_text : Trees → ℕ → List ℕ
child_text forest n = concat (map (λ m. (facts_at forest m).chars) (children_at forest n))

abbrev pub first_value : Trees → List ℕ → List ℕ
first_value forest [] = []
first_value forest (option ∷ options) = option_value forest option

abbrev pub value_by : Native → List Control → Trees → ℕ → List ℕ
value_by Input controls forest n = input_value (input_kind (attribute_at forest n (codes "type"))) (control_at controls n).value
    (attribute_at forest n (codes "value"))
value_by Button controls forest n = unwrap_or (attribute_at forest n (codes "value")) []
value_by Textarea controls forest n = normalized (unwrap_or (control_at controls n).value (child_text forest n))
value_by Select controls forest n = first_value forest (chosen controls forest n)
value_by OptionItem controls forest n = option_value forest n
value_by element controls forest n = []

-- the value of a control; of a select that of its first chosen option; and that of an option
abbrev pub value : List Control → Trees → ℕ → List ℕ
value controls forest n = value_by (native_at forest n) controls forest n

-- the length of the value in code units of UTF-16, or the greatest number of 64 bits where it is longer
abbrev pub units : List Control → Trees → ℕ → ℕ
units controls forest n = min (units_of (value controls forest n)) (2 ^ 64 - 1)
