use Rattle.std.proofs.Common.{◌≡◌}
use Rattle.std.specs.List.{list_any}
use Rattle.form_controls.specs.Checkedness.{group_of}
use Rattle.form_controls.specs.Owners.{Forms}
use Rattle.form_controls.specs.Validity.{is_required}
use Rattle.checkedness.specs.Groups.{left_behind, members_behind}
use Rattle.checkedness.specs.Stands.{IsMemberOrNone, Stands}
use Rattle.validity.proofs.missing.has_required_member.Given as goal

abbrev pub invariant-loop-member : goal.invariant-loop-member
invariant-loop-member l = record {
  member : IsMemberOrNone l.owners l.tree l.radio l.at;
  left : (f : Forms) → f.forest ≡ l.tree → Stands l.owners f
      → list_any (is_required l.tree) (group_of f l.radio) ≡ list_any (is_required l.tree) (members_behind f l.radio l.at);
}

abbrev pub decreases-loop-member : goal.decreases-loop-member
decreases-loop-member l = left_behind l.owners l.tree l.radio l.at
