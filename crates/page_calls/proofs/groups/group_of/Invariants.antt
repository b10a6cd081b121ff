use Rattle.std.proofs.Common.{◌≡◌, ◌++◌, length}
use Rattle.form_controls.specs.Checkedness.{group_of}
use Rattle.ce_algorithms.specs.Forms.{forms_of}
use Rattle.validity.specs.Groups.{members_behind}
use Rattle.validity.specs.Stands.{IsMemberOrNone}
use Rattle.page_calls.proofs.groups.group_of.Given as goal

abbrev pub invariant-loop-member : goal.invariant-loop-member
invariant-loop-member l = record {
  member : IsMemberOrNone l.owners l.tree l.radio l.at;
  split : group_of (forms_of l.fn.page) l.radio ≡ l.members ++ members_behind (forms_of l.fn.page) l.radio l.at;
}

abbrev pub decreases-loop-member : goal.decreases-loop-member
decreases-loop-member l = length (members_behind (forms_of l.fn.page) l.radio l.at)
