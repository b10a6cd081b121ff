use Rattle.std.proofs.Common.{◌≡◌}
use Rattle.std.specs.Prelude.{filter}
use Rattle.std.specs.List.{last_or}
use Rattle.form_controls.specs.Checkedness.{checked_of, is_flagged}
use Rattle.form_controls.specs.Owners.{Forms}
use Rattle.form_owner.specs.Groups.{left_behind, members_behind}
use Rattle.form_owner.specs.Stands.{IsMemberOrNone, Stands}
use Rattle.checkedness.proofs.checked.checked_of.Given as goal

abbrev pub invariant-loop-member : goal.invariant-loop-member
invariant-loop-member l = record {
  member : IsMemberOrNone l.owners l.tree l.radio l.at;
  last : (f : Forms) → f.forest ≡ l.tree → Stands l.owners f
      → checked_of f l.controls l.radio ≡ last_or l.found (filter (is_flagged l.controls l.tree) (members_behind f l.radio l.at));
}

abbrev pub decreases-loop-member : goal.decreases-loop-member
decreases-loop-member l = left_behind l.owners l.tree l.radio l.at
