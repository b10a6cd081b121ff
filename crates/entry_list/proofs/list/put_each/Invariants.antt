use Rattle.std.proofs.Common.{◌≡◌, ◌++◌, take}
use Rattle.form_controls.specs.Owners.{Forms}
use Rattle.checkedness.specs.Stands.{Stands}
use Rattle.entry_list.specs.Given.{given_entries}
use Rattle.entry_list.proofs.list.put_each.Given as goal

abbrev pub invariant-loop-n : goal.invariant-loop-n
invariant-loop-n l = (f : Forms) → f.forest ≡ l.tree → Stands l.owners f
    → l.list ≡ l.initial.list ++ given_entries f l.controls l.inner l.submitter (take l.n-index l.elements)
