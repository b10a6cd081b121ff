-- What is found among options that are looked at one after another.
use Rattle.std.specs.Prelude.{ℕ, Bool, not, if◌then◌else◌, List, Option, Some, None, fold}
use Rattle.std.specs.Option.{option_or}
use Rattle.node_trees.specs.Trees.{Trees}
use Rattle.form_controls.specs.Disabled.{is_option_disabled}
use Rattle.form_controls.specs.Options.{is_selected}
use Rattle.form_controls.specs.declared.control.Control.{Control}
use Rattle.control_state.specs.declared.choosing.Found.{Found}

abbrev pub nothing_found : Found
nothing_found = record { first = None; last = None; enabled = None }

-- what was found is kept, or else the option is, where it passes
abbrev pub first_where : Bool → Option ℕ → ℕ → Option ℕ
first_where passes found option = if passes then option_or found (Some option) else found

-- one more option
abbrev pub noted : List Control → Trees → Found → ℕ → Found
noted controls forest found option = record {
  first = first_where (is_selected controls forest option) found.first option;
  last = if is_selected controls forest option then Some option else found.last;
  enabled = first_where (not (is_option_disabled forest option)) found.enabled option;
}

abbrev pub noted_all : List Control → Trees → Found → List ℕ → Found
noted_all controls forest found options = fold (noted controls forest) found options
