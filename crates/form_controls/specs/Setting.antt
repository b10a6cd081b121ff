-- Setting controls, by a script and by the user (HTML Standard, sections "The input element", "The option element", "The select element").
use Rattle.std.specs.Prelude.{ℕ, Bool, false, not, ◌||◌, ◌==◌, if◌then◌else◌, List, [], filter, fold, Option, Some, None}
use Rattle.element_names.specs.declared.input_kinds.InputKind.TheVariants.{Radio}
use Rattle.node_trees.specs.Trees.{Trees}
use Rattle.form_controls.specs.declared.control.Control.{Control}
use Rattle.form_controls.specs.Kinds.{has_kind, is_readonly}
use Rattle.form_controls.specs.Owners.{Forms}
use Rattle.form_controls.specs.Disabled.{is_disabled}
use Rattle.form_controls.specs.Controls.{set_flag}
use Rattle.form_controls.specs.Options.{options_of, select_of, is_multiple}
use Rattle.form_controls.specs.Checkedness.{group_of}

-- one of a list is set on, and then the others off

abbrev pub without : ℕ → List ℕ → List ℕ
without n list = filter (λ m. not (m == n)) list

abbrev pub set_all_off : List Control → List ℕ → List Control
set_all_off controls list = fold (λ cs m. set_flag cs m false) controls list

-- n is set; where it is set on, the others are set off
abbrev pub set_alone : List Control → ℕ → Bool → List ℕ → List Control
set_alone controls n on others = if on then set_all_off (set_flag controls n on) others else set_flag controls n on

-- checkedness

-- whom a radio button that is set on sets off: the others of its group; a checkbox sets nobody off
abbrev pub rivals_in_group : Forms → ℕ → List ℕ
rivals_in_group f n = if has_kind Radio f.forest n then without n (group_of f n) else []

-- a checkbox or a radio button is set
abbrev pub set_checked : Forms → List Control → ℕ → Bool → List Control
set_checked f controls n on = set_alone controls n on (rivals_in_group f n)

-- options

abbrev pub rivals_in : Trees → ℕ → Option ℕ → List ℕ
rivals_in forest option None = []
rivals_in forest option (Some select) = if is_multiple forest select then [] else without option (options_of forest select)

-- whom an option that is chosen sets off: the other options of its select, unless that is `multiple`
abbrev pub rivals_in_select : Trees → ℕ → List ℕ
rivals_in_select forest option = rivals_in forest option (select_of forest option)

-- an option is set
abbrev pub set_chosen : List Control → Trees → ℕ → Bool → List Control
set_chosen controls forest option on = set_alone controls option on (rivals_in_select forest option)

-- what the user may not do

abbrev pub is_select_disabled : Forms → Option ℕ → Bool
is_select_disabled f None = false
is_select_disabled f (Some select) = is_disabled f select

-- the user can't edit this text control
abbrev pub is_edit_ignored : Forms → ℕ → Bool
is_edit_ignored f n = is_disabled f n || is_readonly f.forest n

-- the user can't set this checkbox or radio button
abbrev pub is_tick_ignored : Forms → ℕ → Bool
is_tick_ignored f n = is_disabled f n

-- the user can't choose this option
abbrev pub is_choice_ignored : Forms → ℕ → Bool
is_choice_ignored f option = is_disabled f option || is_select_disabled f (select_of f.forest option)
