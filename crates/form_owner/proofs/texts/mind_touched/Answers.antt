use Rattle.form_owner.proofs.Minding.{kept-still}
use Rattle.ordered_tables.specs.Held.{is_known}
use Rattle.form_owner.proofs.texts.mind_touched.Goals as goal

pub returns-in-Inserted : goal.returns-in-Inserted
returns-in-Inserted c = rw c.in-Inserted.is (kept-still c.args.tree.now (is_known c.args.named.now) c.args.looks.now)

pub returns-in-Removed : goal.returns-in-Removed
returns-in-Removed c = rw c.in-Removed.is (kept-still c.args.tree.now (is_known c.args.named.now) c.args.looks.now)

pub returns-in-Associated : goal.returns-in-Associated
returns-in-Associated c = rw c.in-Associated.is (kept-still c.args.tree.now (is_known c.args.named.now) c.args.looks.now)
