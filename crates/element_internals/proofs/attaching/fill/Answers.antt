use Rattle.std.proofs.Common.{None, arith}
use Rattle.form_controls.proofs.Filled.{filled-next}
use Rattle.element_internals.proofs.attaching.fill.Goals as goal

pub loop-rows-preserved : goal.loop-rows-preserved
loop-rows-preserved c = filled-next None c.args.place c.args.rows.now.items c.loop-rows.rows.items c.push.new.self.items c.loop-rows.invariant
    (omega arith) c.in_ok-push.ensures.items
