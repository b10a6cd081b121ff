use Rattle.node_arena.proofs.AttributeLemmas.{once_set}
use Rattle.node_arena.proofs.attributes.Attributes.set.Goals as goal
use Rattle.node_arena.proofs.attributes.Attributes.set.Goals.{in-Few, in-Many}

pub invariant_of-self : goal.invariant_of-self
invariant_of-self c =
    elim c.match-self.branch [
      | in-Few w ↦ rw w.self-inside-is
          (once_set w.set_few.result c.args.name c.args.value w.in-Few.items.items w.set_few.new.items.items w.set_few.ensures.ok w.set_few.ensures.err
          (rw w.in-Few.is at c.self.invariant))
      | in-Many w ↦ rw w.self-inside-is tt
    ]
