use Rattle.ordered_tables.proofs.IdIndexGroups.{still_known, taken}
use Rattle.ordered_tables.proofs.id_index.IdIndex.leave.Goals as goal

pub returns-in-Some-clause-held : goal.returns-in-Some-clause-held
returns-in-Some-clause-held c =
    rw (← c.node.view_is) (taken c.args.self.now.groups
    (c.get_mut.follows.lender c.remove.new.self) c.args.id.now c.in-Some.group.now c.remove.new.self c.node.inside.0 c.in-Some.ensures.value
    (c.get_mut.follows.holds c.remove.new.self) c.remove.ensures.updates)

pub returns-in-Some-clause-known : goal.returns-in-Some-clause-known
returns-in-Some-clause-known c =
    still_known c.args.self.now.groups (c.get_mut.follows.lender c.remove.new.self) c.args.id.now c.in-Some.group.now c.remove.new.self c.node.inside.0
    c.in-Some.ensures.value (c.get_mut.follows.holds c.remove.new.self)
