use Rattle.node_arena.proofs.LookUp.{Looking}
use Rattle.node_arena.proofs.tree.Tree.first_held.Given as goal

abbrev pub invariant-loop-holder : goal.invariant-loop-holder
invariant-loop-holder l = Looking l.self l.fn.root l.fn.id l.found l.holder-iterator
