use Rattle.std.proofs.Common.{length, arith}
use Rattle.form_owner.proofs.Changed.{read-rising}
use Rattle.form_owner.proofs.Moved.{all-left, all-renewed, all-told}
use Rattle.form_owner.proofs.Nodes.{changes-placed}
use Rattle.form_owner.proofs.moving.move_each.Goals as goal

pub write_all-requires : goal.write_all-requires
write_all-requires c = changes-placed c.args.tree.now c.args.rows.now (length c.leave_all.new.rows) c.args.changes.now
    (omega (arith, c.requires.rows)) c.requires.changes

pub enter_all-requires-clause-told : goal.enter_all-requires-clause-told
enter_all-requires-clause-told c =
    all-told c.args.tree.now c.count-count.ensures.tidy c.args.rows.now c.leave_all.new.rows c.write_all.new.rows c.args.changes.now c.requires.changes
    c.leave_all.ensures c.write_all.ensures

pub enter_all-requires-clause-rising : goal.enter_all-requires-clause-rising
enter_all-requires-clause-rising c = read-rising c.args.tree.now c.args.rows.now c.args.changes.now c.requires.changes

pub enter_all-requires-clause-left : goal.enter_all-requires-clause-left
enter_all-requires-clause-left c =
    all-left c.args.tree.now c.count-count.ensures.tidy c.args.rows.now c.leave_all.new.rows c.write_all.new.rows c.args.changes.now c.requires.changes
    c.leave_all.ensures c.write_all.ensures c.requires.lists

pub returns : goal.returns
returns c = all-renewed c.args.tree.now c.count-count.ensures.tidy c.args.rows.now c.leave_all.new.rows c.write_all.new.rows c.args.changes.now
    c.requires.changes c.leave_all.ensures c.write_all.ensures c.enter_all.new.rows c.in_ok-enter_all.ensures
