use Rattle.std.proofs.Common.{◌≡◌, ℕ, take}
use Rattle.std.specs.Prelude.{filter}
use Rattle.owner_rows.specs.OwnerRow.{row_in}
use Rattle.form_owner.specs.Moves.{stays}
use Rattle.form_owner.proofs.moving.leave_all.Given as goal

abbrev pub invariant-loop-i : goal.invariant-loop-i
invariant-loop-i l = (j : ℕ) → row_in l.rows j
    ≡ record (row_in l.initial.rows j) { controls = filter (stays (take l.i l.changes)) (row_in l.initial.rows j).controls }
