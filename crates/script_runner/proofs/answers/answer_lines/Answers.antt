use Rattle.std.proofs.Common.{arith}
use Rattle.std.proofs.lemmas.Result.{err_from_is_err_and}
use Rattle.ce_base.proofs.Passed.{passed_part}
use Rattle.script_runner.proofs.GatheredLaws.{answers_passed}
use Rattle.script_runner.proofs.answers.answer_lines.Goals as goal

pub returns-in_err-ran-clause-part : goal.returns-in_err-ran-clause-part
returns-in_err-ran-clause-part g c =
    let p = err_from_is_err_and c.from_residual.result c.from_residual.ensures.1 in
    rw p.1 (passed_part (g.K.Sink.held c.args.out.now.sink.now)
    (g.K.Sink.held c.run_lines.new.sink.sink.now) c.args.out.now.pending.now c.run_lines.new.sink.pending.now _ c.requires.none c.in_err-ran.ensures.part
    c.in_err-ran.ensures.below)

pub returns-in-Err-clause-part : goal.returns-in-Err-clause-part
returns-in-Err-clause-part g c =
    answers_passed _ c.in_ok-ran.ran.0 _ c.in_ok-ran.ran.1 (g.K.Sink.held c.args.out.now.sink.now) _
    (g.K.Sink.held c.pass_on.new.self.sink.now) c.args.out.now.pending.now c.pass_on.new.self.pending.now c.requires.none c.in_ok-ran.ensures.ran
    c.pass_on.ensures.held (omega (arith, c.in_ok-ran.ensures.below, c.pass_on.ensures.below))
