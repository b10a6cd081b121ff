use Rattle.std.proofs.lemmas.Result.{err_from_is_err_and}
use Rattle.ce_algorithms.proofs.Writing.{part_none}
use Rattle.ce_machine.proofs.writing.write_part.Goals as goal

pub returns-in_err-reply_to_part-clause-part : goal.returns-in_err-reply_to_part-clause-part
returns-in_err-reply_to_part-clause-part g c =
    let p = err_from_is_err_and c.from_residual.result c.from_residual.ensures.1 in
    rw p.1 (part_none _ _)
