use Rattle.std.proofs.Common.{◌≡◌, ℕ, take}
use Rattle.owner_rows.specs.OwnerRow.{row_in}
use Rattle.form_owner.specs.Writing.{with_changes}
use Rattle.form_owner.proofs.writing.write_all.Given as goal

abbrev pub invariant-loop-i : goal.invariant-loop-i
invariant-loop-i l = (j : ℕ) → row_in l.rows j ≡ with_changes (take l.i l.changes) j (row_in l.initial.rows j)
