use Rattle.std.proofs.lemmas.Result.{err_from_is_err_and}
use Rattle.ce_algorithms.proofs.Writing.{part_none}
use Rattle.ce_machine.proofs.writing.write_refused.Goals as goal

pub returns-in_err-log-clause-part : goal.returns-in_err-log-clause-part
returns-in_err-log-clause-part g c =
    let p = err_from_is_err_and c.from_residual.result c.from_residual.ensures.1 in
    rw p.1 (part_none _ _)
