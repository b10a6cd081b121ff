-- Which nodes an index of ids has for an id, and which ids it knows.
use Rattle.std.specs.Prelude.{ℕ, Bool, false, List, is_some}
use Rattle.std.specs.Option.{option_map_or}
use Rattle.std.specs.Ordering.{nat_cmp}
use Rattle.std.specs.BTreeMap.{get_by_text}
use Rattle.std.specs.BTreeSet.{contains}
use Rattle.ordered_tables.specs.declared.id_index.IdIndex.{IdIndex}

abbrev pub is_held : IdIndex → List ℕ → ℕ → Bool
is_held index id m = option_map_or (λ s. contains nat_cmp s m) (get_by_text index.groups id) false

-- a node was noted for the id, and since then the id was not forgotten
abbrev pub is_known : IdIndex → List ℕ → Bool
is_known index id = is_some (get_by_text index.groups id)
