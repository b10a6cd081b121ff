use Rattle.std.proofs.Common.{◌≡◌, take}
use Rattle.std.specs.Prelude.{filter, option_copied}
use Rattle.node_trees.specs.Spots.{facts_at}
use Rattle.node_trees.specs.Candidates.{is_candidate}
use Rattle.upgrade_walk.proofs.candidate.candidates_among.Given as goal

abbrev pub invariant-loop-i : goal.invariant-loop-i
invariant-loop-i l = l.found ≡ filter (λ n. is_candidate l.local (option_copied l.is_value) (facts_at l.tree n)) (take l.i l.nodes)
