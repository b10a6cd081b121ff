use Rattle.std.proofs.Common.{◌∙◌, ap, sym}
use Rattle.node_trees.specs.Paths.{is_among}
use Rattle.ordered_tables.proofs.NodeSetMembers.{among-any}
use Rattle.form_owner.proofs.Considering.{all-passed}
use Rattle.form_owner.proofs.candidates.consider_named.Goals as goal

pub returns : goal.returns
returns c =
    all-passed _ _ _ c.in-None.ensures.steps.0
    (λ m passes. ap (is_among m) c.into_iter-number-iterator.ensures.into_iter_gives.0 ∙ sym (among-any m _) ∙ c.in-Some-group.ensures.held m
    ∙ (rw c.in-Some.is at passes))
    c.loop-number.invariant
