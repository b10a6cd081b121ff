use Rattle.std.proofs.Common.{ℕ, List}
use Rattle.tree_laws.proofs.OrderListing.{Listing, left_from}
use Rattle.ordered_tables.specs.Held.{is_held}
use Rattle.form_owner.specs.Candidates.{Considers, is_concerned, is_with_among}
use Rattle.form_owner.proofs.reach.consider_near.Given as goal

abbrev pub invariant-loop-named_by : goal.invariant-loop-named_by
invariant-loop-named_by l = record {
  so_far : (out : List ℕ) × Listing l.tree l.fn.n l.at out
      × Considers l.tree (is_concerned l.tree l.rows) (is_with_among l.tree (is_held l.named) out) l.initial.found l.found;
}

abbrev pub decreases-loop-named_by : goal.decreases-loop-named_by
decreases-loop-named_by l = left_from l.tree l.fn.n l.at
