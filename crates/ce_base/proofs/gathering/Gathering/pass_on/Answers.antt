use Rattle.ce_base.proofs.Written.{passed_on, none_pending, count_of-grows}
use Rattle.ce_base.proofs.gathering.Gathering.pass_on.Goals as goal

pub returns-clause-held : goal.returns-clause-held
returns-clause-held g c =
    passed_on (g.K.Sink.held c.args.self.now.sink.now)
    (g.K.Sink.held c.write_on-count.new.sink) c.args.self.now.pending.now c.take.new.self c.write_on-count.result.0
    (rw c.as_slice.ensures.bytes at c.write_on-count.ensures.written) c.take.ensures

pub returns-clause-none : goal.returns-clause-none
returns-clause-none g c =
    none_pending c.write_on-count.result.1 c.args.self.now.pending.now c.take.new.self c.write_on-count.result.0
    (rw c.as_slice.ensures.bytes at c.write_on-count.ensures.all) c.take.ensures

pub returns-clause-below : goal.returns-clause-below
returns-clause-below g c = count_of-grows (g.K.Sink.held c.args.self.now.sink.now) (g.K.Sink.held c.write_on-count.new.sink) _ c.write_on-count.ensures.written
