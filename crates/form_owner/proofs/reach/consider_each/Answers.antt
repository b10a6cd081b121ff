use Rattle.std.proofs.Common.{arith}
use Rattle.form_owner.proofs.Considering.{far-all, far-on, far-start}
use Rattle.form_owner.proofs.reach.consider_each.Goals as goal

pub loop-n-init : goal.loop-n-init
loop-n-init c = (omega arith, far-start c.args.found.now)

pub loop-n-preserved : goal.loop-n-preserved
loop-n-preserved c = (omega (arith, c.loop-n-test.true), far-on c.loop-n.n c.loop-n.invariant.1 c.in_ok-consider_noted.ensures)

pub returns : goal.returns
returns c = far-all c.loop-n.n (omega (arith, c.loop-n-test.false, c.loop-n.invariant.0, c.count-count.ensures.count)) c.loop-n.invariant.1
