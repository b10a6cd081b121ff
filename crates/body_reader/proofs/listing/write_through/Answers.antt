use Rattle.std.proofs.Common.{arith}
use Rattle.std.proofs.lemmas.Result.{err_from_is_err_and}
use Rattle.ce_base.proofs.Passed.{passed_part, passed_some}
use Rattle.body_reader.proofs.Refusals.{on_err}
use Rattle.body_reader.proofs.listing.write_through.Goals as goal

pub returns-in_err-write_entries-clause-part : goal.returns-in_err-write_entries-clause-part
returns-in_err-write_entries-clause-part g c =
    let p = err_from_is_err_and c.from_residual.result c.from_residual.ensures.1 in
    rw p.1 (passed_part (g.K.Sink.held c.args.out.now.sink.now)
    (g.K.Sink.held c.write_entries.new.sink.sink.now) c.args.out.now.pending.now c.write_entries.new.sink.pending.now _ c.requires
    c.in_err-write_entries.ensures.part c.in_err-write_entries.ensures.below)

pub returns-clause-part : goal.returns-clause-part
returns-clause-part g c =
    on_err c.pass_on.result _ (passed_some (g.K.Sink.held c.args.out.now.sink.now) _
    (g.K.Sink.held c.pass_on.new.self.sink.now) c.args.out.now.pending.now c.pass_on.new.self.pending.now _ c.requires c.in_ok-write_entries.ensures.all
    c.pass_on.ensures.held (omega (arith, c.in_ok-write_entries.ensures.below, c.pass_on.ensures.below)))
