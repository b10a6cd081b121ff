use Rattle.ordered_tables.specs.Held.{is_known}
use Rattle.form_owner.proofs.Looking.{noted-again}
use Rattle.form_owner.proofs.looks.note_again.Goals as goal

pub returns : goal.returns
returns c =
    noted-again c.args.tree.now c.args.rows.now (is_known c.args.named.now) c.args.n c.look_of.result c.look_of.ensures c.requires.low c.args.looks.now
    c.set.new.self c.set.ensures.here c.set.ensures.others
