-- What is seen of an element's attributes.
use Rattle.std.specs.Prelude.{ℕ, codes}
use Rattle.node_trees.specs.Trees.{Trees}
use Rattle.node_trees.specs.Spots.{attribute_at}
use Rattle.form_controls.specs.Disabled.{has_disabled}
use Rattle.owner_rows.specs.OwnerRow.{Seen}

abbrev pub seen_at : Trees → ℕ → Seen
seen_at forest n = record {
  id = attribute_at forest n (codes "id");
  form = attribute_at forest n (codes "form");
  disabled = has_disabled forest n;
}
