use Rattle.std.proofs.Common.{◌∙◌, ap, Err}
use Rattle.std.proofs.lemmas.Result.{err_from_is_err_and}
use Rattle.ce_algorithms.specs.Lines.{lines_of}
use Rattle.trace_check.proofs.TellLaws.{told_part}
use Rattle.trace_check.proofs.telling.tell_verdict.Goals as goal

pub returns-in_err-write_all-clause-tells : goal.returns-in_err-write_all-clause-tells
returns-in_err-write_all-clause-tells g c =
    let p = err_from_is_err_and c.from_residual-in_err-write_all.result c.from_residual-in_err-write_all.ensures.1 in
    rw (p.1, p.2)
    (told_part (lines_of c.args.bytes.now) c.in_ok-verdict.verdict c.as_bytes.result.now c.in_err-write_all.field-0.0
    (g.K.Sink.held c.args.sink.now) (g.K.Sink.held c.write_all.new.sink) (g.K.Sink.failed c.args.sink.now) (g.K.Sink.failed c.write_all.new.sink)
    c.in_ok-verdict.ensures.says (c.as_bytes.ensures.value ∙ (c.as_str.ensures ∙ c.in_ok-line.ensures)) c.in_err-write_all.ensures.part
    (λ stop. c.in_err-write_all.ensures.cause (ap Err stop)))
