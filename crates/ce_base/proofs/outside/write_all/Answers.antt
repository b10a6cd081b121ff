use Rattle.ce_base.proofs.Written.{wrote_all, wrote_front}
use Rattle.ce_base.proofs.outside.write_all.Goals as goal

pub returns-clause-all : goal.returns-clause-all
returns-clause-all g c = wrote_all c.write_on-end.result.1 _ _ c.args.bytes.now c.write_on-end.result.0 c.write_on-end.ensures.all
    c.write_on-end.ensures.written

pub returns-clause-part : goal.returns-clause-part
returns-clause-part g c = wrote_front c.write_on-end.result.1 _ _ c.args.bytes.now c.write_on-end.result.0 c.write_on-end.ensures.written
