use Rattle.std.proofs.Common.{arith}
use Rattle.ce_page.proofs.CopyLemmas.{pushed}
use Rattle.ce_page.proofs.clone.push_below.Goals as goal

pub loop-left-preserved : goal.loop-left-preserved
loop-left-preserved c = pushed _ c.args.nodes c.loop-left.left c.node_at-from.result c.loop-left.todo.items c.push.new.self.items c.args.todo.now.items
    (omega arith) c.loop-left.invariant.0 c.node_at-from.ensures.rest c.in_ok-push.ensures.items c.loop-left.invariant.1
