use Rattle.node_trees.specs.Nodes.{IsNode, IsTidy}
use Rattle.tree_laws.proofs.Seeking.{Seeking, left_from}
use Rattle.node_arena.proofs.tree.Tree.first_met.Given as goal

abbrev pub invariant-loop-root : goal.invariant-loop-root
invariant-loop-root l = record { node : IsNode l.self l.at; seeking : IsTidy l.self → Seeking l.self l.fn.root l.fn.id l.at }

abbrev pub decreases-loop-root : goal.decreases-loop-root
decreases-loop-root l = left_from l.self l.fn.root l.at
