use Rattle.std.proofs.Common.{◌-◌, ◌≤◌}
use Rattle.form_owner.specs.Candidates.{Considers, is_concerned}
use Rattle.form_owner.proofs.Considering.{is_up_to}
use Rattle.form_owner.proofs.reach.consider_each.Given as goal

abbrev pub invariant-loop-n : goal.invariant-loop-n
invariant-loop-n l = (l.n ≤ l.count) × Considers l.tree (is_concerned l.tree l.rows) (is_up_to l.n) l.initial.found l.found

abbrev pub decreases-loop-n : goal.decreases-loop-n
decreases-loop-n l = l.count - l.n
