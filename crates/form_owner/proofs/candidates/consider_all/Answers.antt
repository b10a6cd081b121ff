use Rattle.std.proofs.Common.{refl, arith}
use Rattle.form_owner.proofs.Considering.{nothing, next-among, whole-among}
use Rattle.form_owner.proofs.candidates.consider_all.Goals as goal

pub loop-i-init : goal.loop-i-init
loop-i-init c = nothing _ c.args.found.now (λ n is. refl)

pub loop-i-preserved : goal.loop-i-preserved
loop-i-preserved c = next-among c.args.nodes.now c.loop-i.i c.node_at.result c.node_at.ensures.here c.loop-i.invariant c.in_ok-consider.ensures

pub returns : goal.returns
returns c = whole-among c.args.nodes.now c.loop-i.i (omega (arith, c.loop-i-test.false, c.len-i-end.ensures)) c.loop-i.invariant
