use Rattle.std.proofs.Common.{◌≡◌, take}
use Rattle.std.specs.Prelude.{filter}
use Rattle.form_controls.specs.Owners.{Forms}
use Rattle.form_controls.specs.Validity.{is_invalid}
use Rattle.checkedness.specs.Stands.{Stands}
use Rattle.validity.proofs.invalid.invalid_controls.Given as goal

abbrev pub invariant-loop-n : goal.invariant-loop-n
invariant-loop-n l = (f : Forms) → f.forest ≡ l.tree → Stands l.owners f → l.invalid ≡ filter (is_invalid f l.controls l.inner) (take l.n-index l.n-items)
