use Rattle.std.proofs.Common.{ap, length, length-append, arith}
use Rattle.std.proofs.lemmas.Result.{IfOk-weaker}
use Rattle.ce_algorithms.proofs.Writing.{part_none}
use Rattle.script_runner.proofs.answers.take_piece.Goals as goal

pub returns-in-Err-clause-part : goal.returns-in-Err-clause-part
returns-in-Err-clause-part g c = part_none _ _

pub returns-clause-number : goal.returns-clause-number
returns-clause-number g c =
    let fed = ap length c.in_default.ensures in
    let sum = length-append c.args.feed.now c.args.piece.now in
    IfOk-weaker c.answer_lines.result _ _ (λ r h. omega (arith, fed, sum, h)) c.answer_lines.ensures.number
