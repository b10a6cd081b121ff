-- Resetting controls, and cloning them (HTML Standard, section "Resetting a form", "reset algorithm"; sections "The input
-- element", "The textarea element", "cloning steps").
use Rattle.std.specs.Prelude.{ℕ, Bool, ◌||◌, if◌then◌else◌, List, fold}
use Rattle.element_names.specs.declared.natives.Native.{Native}
use Rattle.element_names.specs.declared.natives.Native.TheVariants.{Input, Select, Textarea}
use Rattle.node_trees.specs.Trees.{Trees}
use Rattle.form_controls.specs.declared.control.Control.{Control}
use Rattle.form_controls.specs.Kinds.{native_at, is_a}
use Rattle.form_controls.specs.Owners.{Forms, controls_of}
use Rattle.form_controls.specs.Controls.{clear, copy_state}
use Rattle.form_controls.specs.Options.{options_of}

-- reset

abbrev pub clear_all : List Control → List ℕ → List Control
clear_all controls list = fold clear controls list

abbrev pub reset_by : Native → List Control → Trees → ℕ → List Control
reset_by Input controls forest n = clear controls n
reset_by Textarea controls forest n = clear controls n
reset_by Select controls forest n = clear_all controls (options_of forest n)
reset_by element controls forest n = controls

-- an input, a textarea, or the options of a select keep nothing of what was set but the message
abbrev pub reset : List Control → Trees → ℕ → List Control
reset controls forest n = reset_by (native_at forest n) controls forest n

-- each control of a form is reset
abbrev pub reset_controls : Forms → List Control → ℕ → List Control
reset_controls f controls form = fold (λ cs n. reset cs f.forest n) controls (controls_of f form)

-- cloning

abbrev pub is_state_cloned : Trees → ℕ → Bool
is_state_cloned forest n = is_a Input forest n || is_a Textarea forest n

-- an input or a textarea hands its raw value, its checkedness and their dirty flags on to its copy; nothing else does
abbrev pub clone_state : List Control → Trees → ℕ → ℕ → List Control
clone_state controls forest from to = if is_state_cloned forest from then copy_state controls from to else controls
