-- What some elements of a form give.
use Rattle.std.specs.Prelude.{ℕ, Bool, ◌&&◌, not, List, filter, flat_map, Option}
use Rattle.ce_base.specs.declared.entries.Entry.{Entry}
use Rattle.form_controls.specs.declared.control.Control.{Control}
use Rattle.form_controls.specs.declared.internals.Internals.{Internals}
use Rattle.form_controls.specs.Owners.{Forms, is_submittable}
use Rattle.form_submission.specs.EntryList.{entries_at, is_skipped}

-- it is submittable, and is not passed over
abbrev pub is_giver : Forms → List Control → Option ℕ → ℕ → Bool
is_giver f controls submitter n = is_submittable f n && not (is_skipped f controls submitter n)

-- the entries of those that give some
abbrev pub given_entries : Forms → List Control → List (Option Internals) → Option ℕ → List ℕ → List Entry
given_entries f controls internals submitter elements = flat_map (entries_at f controls internals) (filter (is_giver f controls submitter) elements)
