use Rattle.std.proofs.Common.{◌≡◌, ◌≤◌, ◌++◌, map, drop, length}
use Rattle.std.specs.Prelude.{reverse}
use Rattle.ce_page.proofs.clone.push_below.Given as goal

abbrev pub invariant-loop-left : goal.invariant-loop-left
invariant-loop-left l = (l.left ≤ length l.fn.nodes)
    × (reverse l.todo.items ≡ map (λ from. record { parent = l.parent; from = from }) (drop l.left l.fn.nodes) ++ reverse l.fn.todo.items)

abbrev pub decreases-loop-left : goal.decreases-loop-left
decreases-loop-left l = l.left
