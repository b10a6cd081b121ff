-- What the table keeps: a row and a note for each node, those of node 1 first. Past its end a table is blank.
use Rattle.std.specs.Prelude.{List}
use Rattle.ordered_tables.specs.declared.id_index.IdIndex.{IdIndex}
use Rattle.owner_rows.specs.OwnerRow.{OwnerRow}
use Rattle.form_owner.specs.declared.looks.Look.{Look}

pub record OwnerRows : Type 0 where
  pub rows : List OwnerRow
  pub named : IdIndex  -- for each text the elements whose `form` attribute it was seen to be
  pub looks : List Look  -- what a move looks at in it
