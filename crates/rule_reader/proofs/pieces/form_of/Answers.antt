use Rattle.std.proofs.lemmas.Result.{err_from_is_err_and}
use Rattle.rule_reader.specs.Pieces.{form_of}
use Rattle.rule_reader.proofs.Joins.{fails}
use Rattle.rule_reader.proofs.pieces.form_of.Goals as goal

-- the fault of a piece
pub returns-in_err-piece : goal.returns-in_err-piece
returns-in_err-piece c =
    let p = err_from_is_err_and c.from_residual.result c.from_residual.ensures.1 in
    rw (p.1, p.2) (fails c.in_err-piece.field-0.0 c.left.wraps c.left.left c.left.rest.now
    (form_of c.args.tokens.now) c.left-test.true c.in_err-piece.ensures c.left.invariant)
