use Rattle.std.proofs.Common.{◌≡◌, take}
use Rattle.above_reading.specs.Ways.{AreRight}
use Rattle.form_owner.specs.Reading.{changes_read}
use Rattle.form_owner.proofs.renewal.changes_among.Given as goal

abbrev pub invariant-loop-i : goal.invariant-loop-i
invariant-loop-i l = record {
  known : AreRight l.tree l.readings.known;
  read : l.changes ≡ changes_read l.tree l.rows (take l.i l.candidates);
}
