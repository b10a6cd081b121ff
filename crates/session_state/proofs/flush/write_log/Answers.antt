use Rattle.std.proofs.Common.{◌∙◌, arith}
use Rattle.std.proofs.lemmas.Result.{err_from_is_err_and}
use Rattle.ce_base.proofs.Counts.{unrisen}
use Rattle.session_state.proofs.FlushLaws.{wrote_event, wrote_part_event}
use Rattle.session_state.proofs.flush.write_log.Goals as goal

pub loop-e-preserved : goal.loop-e-preserved
loop-e-preserved g c = record {
  written = wrote_event c.args.trace _ _ _ c.args.log.now c.loop-e.e-index c.e-item.result c.loop-e-test.true c.e-item.is c.loop-e.invariant.written
      c.in_ok-write_out.ensures.all;
  later = omega arith;
  told = let same = unrisen _ _ _ _ c.in_ok-write_out.ensures.told in let kept = c.loop-e.invariant.told in omega (arith, same, kept);
  home = c.in_ok-write_out.ensures.home ∙ c.loop-e.invariant.home;
  below = omega arith;
}

pub returns-in_err-write_out-clause-part : goal.returns-in_err-write_out-clause-part
returns-in_err-write_out-clause-part g c =
    let p = err_from_is_err_and c.from_residual.result c.from_residual.ensures.1 in
    rw p.1 (wrote_part_event c.args.trace _ _ _ c.args.log.now c.loop-e.e-index c.e-item.result c.loop-e-test.true c.e-item.is c.loop-e.invariant.written
    c.in_err-write_out.ensures.part)
