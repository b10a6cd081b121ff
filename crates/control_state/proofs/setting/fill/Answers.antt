use Rattle.std.proofs.Common.{arith}
use Rattle.form_controls.specs.Controls.{untouched}
use Rattle.form_controls.proofs.Filled.{filled-next}
use Rattle.control_state.proofs.setting.fill.Goals as goal

pub loop-alloc-preserved : goal.loop-alloc-preserved
loop-alloc-preserved c =
    filled-next untouched c.args.place c.args.rows.now.items c.loop-alloc.rows.items c.push.new.self.items
    c.loop-alloc.invariant (omega arith) (rw c.blank.ensures at c.in_ok-push.ensures.items)
