use Rattle.node_arena.proofs.attributes.Attributes.remove.Goals as goal

pub remove_few-requires : goal.remove_few-requires
remove_few-requires c = rw c.in-Few.is at c.self.invariant
