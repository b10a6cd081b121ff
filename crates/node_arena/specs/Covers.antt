-- The index of ids has each element for the id that it has. It may have others.
use Rattle.std.specs.Prelude.{◌≡◌, ℕ, ◌<◌, true, List, Some}
use Rattle.node_trees.specs.Ids.{has_id}
use Rattle.ordered_tables.specs.Held.{is_held}
use Rattle.ordered_tables.specs.declared.id_index.IdIndex.{IdIndex}
use Rattle.node_arena.specs.Links.{Link, link_at}

pub record Covers (index : IdIndex) (links : List Link) : Type 0 where
  pub held : (id : List ℕ) (n : ℕ) (l : Link) → 0 < n → link_at links n ≡ Some l → has_id id l.facts ≡ true → is_held index id n ≡ true
