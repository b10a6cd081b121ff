-- What stands above a node, as forms are about it.
use Rattle.std.specs.Prelude.{ℕ, Bool, false, not, ◌&&◌, List, ◌∷◌, Option, Some, None}
use Rattle.std.specs.List.{list_any}
use Rattle.element_names.specs.declared.natives.Native.TheVariants.{Fieldset}
use Rattle.node_trees.specs.Trees.{Trees}
use Rattle.node_trees.specs.Paths.{is_among, root_at}
use Rattle.form_controls.specs.Kinds.{is_a}
use Rattle.form_controls.specs.Owners.{ancestors, nearest_form}
use Rattle.form_controls.specs.Disabled.{first_legend, has_disabled, is_in_disabled_fieldset}
use Rattle.above_reading.specs.declared.above.Above.{Above}

abbrev pub is_on : List ℕ → Option ℕ → Bool
is_on way None = false
is_on way (Some n) = is_among n way

-- what is above n is a fieldset with `disabled`, and its first legend is neither n nor above n: what is below n it disables
abbrev pub disables_below : Trees → ℕ → ℕ → Bool
disables_below forest n above =
    is_a Fieldset forest above && has_disabled forest above && not (is_on (n ∷ ancestors forest n) (first_legend forest above))

abbrev pub is_disabled_below : Trees → ℕ → Bool
is_disabled_below forest n = list_any (disables_below forest n) (ancestors forest n)

abbrev pub above_at : Trees → ℕ → Above
above_at forest n = record {
  form = nearest_form forest n;
  inside = is_in_disabled_fieldset forest n;
  below = is_disabled_below forest n;
  root = root_at forest n;
}
