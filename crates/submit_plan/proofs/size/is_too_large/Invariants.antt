use Rattle.std.proofs.Common.{◌≡◌, ◌-◌, ◌^◌, take}
use Rattle.std.specs.Prelude.{min, sum_by}
use Rattle.form_submission.specs.Plans.{entry_size}
use Rattle.submit_plan.proofs.size.is_too_large.Given as goal

abbrev pub invariant-loop-e : goal.invariant-loop-e
invariant-loop-e l = l.size ≡ min (sum_by entry_size (take l.e-index l.e-items)) (2 ^ 64 - 1)
