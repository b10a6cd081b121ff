use Rattle.std.proofs.Common.{◌≡◌, take}
use Rattle.std.specs.Prelude.{filter}
use Rattle.node_trees.specs.Facts.{is_element}
use Rattle.node_trees.specs.Spots.{kind_at}
use Rattle.upgrade_walk.proofs.element.elements_among.Given as goal

abbrev pub invariant-loop-i : goal.invariant-loop-i
invariant-loop-i l = l.found ≡ filter (λ m. is_element (kind_at l.tree m)) (take l.i l.nodes)
