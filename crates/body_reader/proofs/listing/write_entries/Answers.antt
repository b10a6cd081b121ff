use Rattle.std.proofs.Common.{◌<◌, length, arith}
use Rattle.std.proofs.lemmas.Result.{err_from_is_err_and}
use Rattle.body_reader.proofs.ListingLaws.{wrote_front}
use Rattle.body_reader.proofs.listing.write_entries.Goals as goal

pub returns-in_err-write_entry-clause-part : goal.returns-in_err-write_entry-clause-part
returns-in_err-write_entry-clause-part g c =
    let p = err_from_is_err_and c.from_residual.result c.from_residual.ensures.1 in
    let small : c.loop-e.e-index < length c.args.entries.now = omega arith in
    rw p.1 (wrote_front c.args.entries.now c.loop-e.e-index c.e-item.result _ _ _ small c.e-item.is c.loop-e.invariant.wrote c.in_err-write_entry.ensures.part)
