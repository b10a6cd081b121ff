use Rattle.form_owner.proofs.Leaving.{left-not}
use Rattle.form_owner.proofs.moving.leave_where.Goals as goal

pub returns-else-moves : goal.returns-else-moves
returns-else-moves c = left-not c.args.moves c.args.n c.args.rows.now c.if-moves.false
