use Rattle.std.proofs.Common.{ℕ, ◌-◌, length}
use Rattle.ordered_tables.specs.Held.{is_known}
use Rattle.form_owner.specs.Looks.{IsRightAt}
use Rattle.form_owner.proofs.looks.note_new.Given as goal

abbrev pub invariant-loop-looks : goal.invariant-loop-looks
invariant-loop-looks l = (i : ℕ) → IsRightAt l.tree l.rows (is_known l.named) l.initial.looks i → IsRightAt l.tree l.rows (is_known l.named) l.looks i

abbrev pub decreases-loop-looks : goal.decreases-loop-looks
decreases-loop-looks l = l.count - length l.looks
