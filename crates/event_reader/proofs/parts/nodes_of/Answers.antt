use Rattle.std.proofs.Common.{rules, arith}
use Rattle.std.proofs.lemmas.Grind.{common_steps}
use Rattle.event_reader.proofs.FitLaws.{pushed_numbers}
use Rattle.event_reader.proofs.parts.nodes_of.Goals as goal

pub loop-t-preserved : goal.loop-t-preserved
loop-t-preserved c = (
  first_of (search rules, grind (arith, common_steps)),
  pushed_numbers c.loop-t.nodes c.push.new.self c.node_in.result c.in_ok-push.ensures c.loop-t.invariant.1 c.node_in.ensures.fits,
)
