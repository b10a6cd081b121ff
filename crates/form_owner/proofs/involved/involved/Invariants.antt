use Rattle.std.proofs.Common.{[], take, true}
use Rattle.form_owner.specs.Candidates.{Considers}
use Rattle.form_owner.specs.Writing.{is_moved_among}
use Rattle.form_owner.proofs.involved.involved.Given as goal

abbrev pub invariant-loop-i : goal.invariant-loop-i
invariant-loop-i l = Considers l.tree (λ m. true) (is_moved_among l.rows (take l.i l.changes)) [] l.forms
