use Rattle.std.proofs.Common.{◌≡◌, take}
use Rattle.std.specs.Prelude.{filter}
use Rattle.form_owner.specs.Reading.{is_owned_in}
use Rattle.form_owner.proofs.controls.owned_among.Given as goal

abbrev pub invariant-loop-i : goal.invariant-loop-i
invariant-loop-i l = l.found.items ≡ filter (is_owned_in l.rows l.form) (take l.i l.order)
