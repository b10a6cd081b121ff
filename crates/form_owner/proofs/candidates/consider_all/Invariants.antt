use Rattle.std.proofs.Common.{take}
use Rattle.node_trees.specs.Paths.{is_among}
use Rattle.form_owner.specs.Candidates.{Considers, is_concerned}
use Rattle.form_owner.proofs.candidates.consider_all.Given as goal

abbrev pub invariant-loop-i : goal.invariant-loop-i
invariant-loop-i l = Considers l.tree (is_concerned l.tree l.rows) (λ m. is_among m (take l.i l.nodes)) l.initial.found l.found
