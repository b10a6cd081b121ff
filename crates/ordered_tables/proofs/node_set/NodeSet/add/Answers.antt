use Rattle.ordered_tables.proofs.NodeSetMembers.{put-in}
use Rattle.ordered_tables.proofs.node_set.NodeSet.add.Goals as goal

pub returns : goal.returns
returns c = rw (← c.n.view_is, ← c.self.view_is) (put-in c.self.inside.items c.insert.new.self c.n.inside.0 c.in_ok-insert.ensures.updates)
