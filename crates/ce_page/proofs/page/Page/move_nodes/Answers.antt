use Rattle.std.proofs.Common.{rules, ◌∙◌}
use Rattle.ce_page.proofs.CopyLemmas.{moves_next}
use Rattle.ce_page.proofs.page.Page.move_nodes.Goals as goal

pub loop-i-preserved : goal.loop-i-preserved
loop-i-preserved c = record {
  step = λ fuel. let all = c.loop-i.invariant.step fuel in let split = rw c.node_at-n.ensures.rest at all in rw c.move_one.ensures.page split;
  within = search rules;
  places = search rules;
  moves = moves_next c.args.walk.now c.loop-i.i c.node_at-n.result c.node_at-n.ensures.here c.loop-i.invariant.moves c.move_one.ensures.moves;
  settled = c.move_one.ensures.settled ∙ c.loop-i.invariant.settled;
}
