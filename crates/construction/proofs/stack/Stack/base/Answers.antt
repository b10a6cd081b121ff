use Rattle.std.proofs.Common.{◌-◌, arith}
use Rattle.construction.proofs.LastEntry.{marked-last}
use Rattle.construction.proofs.stack.Stack.base.Goals as goal

pub returns-clause-entries : goal.returns-clause-entries
returns-clause-entries c =
    rw (← c.self.view_is, c.take.ensures.after)
    (marked-last c.self.inside.entries.items (c.len-count.result - 1) c.index_mut-last.result.now (omega arith) c.index_mut-last.ensures.value)
