use Rattle.std.proofs.Common.{◌≡◌, ℕ, ◌-◌, ◌≤◌, length}
use Rattle.owner_rows.specs.OwnerRow.{row_in}
use Rattle.form_owner.proofs.settle.fill.Given as goal

abbrev pub invariant-loop-alloc : goal.invariant-loop-alloc
invariant-loop-alloc l = record { within : length l.rows.items ≤ l.fn.count; same : (i : ℕ) → row_in l.rows.items i ≡ row_in l.initial.rows.items i }

abbrev pub decreases-loop-alloc : goal.decreases-loop-alloc
decreases-loop-alloc l = l.fn.count - length l.rows.items
