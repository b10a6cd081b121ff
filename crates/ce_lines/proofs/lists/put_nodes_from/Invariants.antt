use Rattle.std.proofs.Common.{◌≡◌, ◌++◌, drop}
use Rattle.ce_events.specs.Text.{spaced_nodes}
use Rattle.ce_lines.proofs.lists.put_nodes_from.Given as goal

abbrev pub invariant-loop-i : goal.invariant-loop-i
invariant-loop-i l = l.out ++ spaced_nodes (drop l.i l.nodes) ≡ l.initial.out ++ spaced_nodes (drop l.start l.nodes)
