use Rattle.std.proofs.Common.{subst, sym, ◌∙◌, ap, arith}
use Rattle.tree_laws.proofs.Counts.{AreApart}
use Rattle.owner_rows.specs.OwnerRow.{OwnerRow, row_in}
use Rattle.form_owner.proofs.Leaving.{indexed}
use Rattle.form_owner.proofs.moving.put_into.Goals as goal

pub put_in-requires : goal.put_in-requires
put_in-requires c = record {
  apart =
      subst (λ (r : OwnerRow). AreApart r.controls)
      (sym (indexed c.args.rows.now c.place.result _ (omega arith) ∙ ap (row_in c.args.rows.now) c.place.ensures)) c.requires.apart;
}
