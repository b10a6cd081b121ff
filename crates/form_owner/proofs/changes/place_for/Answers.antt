use Rattle.std.proofs.Common.{ltb, rules}
use Rattle.std.proofs.lemmas.List.Sorted.{IsPartitionPoint-from_clause}
use Rattle.form_controls.specs.declared.change.Change.{Change}
use Rattle.form_owner.proofs.Told.{found_at, parted}
use Rattle.form_owner.proofs.changes.place_for.Goals as goal

pub returns : goal.returns
returns c =
    let point = IsPartitionPoint-from_clause (λ (x : Change). ltb x.node c.args.n) c.args.changes.now _ c.partition_point.ensures.partitioned
    (parted c.args.n c.args.changes.now c.requires) (λ a r q k. search rules) in
    found_at c.args.n c.partition_point.result c.args.changes.now c.requires point
