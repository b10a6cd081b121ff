use Rattle.std.proofs.Common.{subst, sym}
use Rattle.tree_laws.proofs.Counts.{AreApart}
use Rattle.owner_rows.specs.OwnerRow.{OwnerRow}
use Rattle.owner_rows.proofs.row.Row.put_in.Goals as goal

pub put_in-requires : goal.put_in-requires
put_in-requires c = record { apart = subst (λ (r : OwnerRow). AreApart r.controls) (sym c.self.view_is) c.requires.apart }
