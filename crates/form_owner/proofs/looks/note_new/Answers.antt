use Rattle.std.proofs.Common.{◌+◌, arith}
use Rattle.ordered_tables.specs.Held.{is_known}
use Rattle.form_owner.proofs.Looking.{noted-next}
use Rattle.form_owner.proofs.looks.note_new.Goals as goal

pub loop-looks-preserved : goal.loop-looks-preserved
loop-looks-preserved c =
    noted-next c.args.tree.now c.args.rows.now (is_known c.args.named.now)
    (c.len-in-loop-looks.result + 1) c.look_of.result c.look_of.ensures c.args.looks.now c.loop-looks.looks c.push.new.self
    (omega (arith, c.len-in-loop-looks.ensures)) c.in_ok-push.ensures c.loop-looks.invariant
