use Rattle.std.proofs.Common.{◌∙◌, ap, sym}
use Rattle.node_trees.specs.Paths.{is_among}
use Rattle.ordered_tables.proofs.NodeSetMembers.{among-any}
use Rattle.form_owner.proofs.Minding.{minding-end}
use Rattle.form_owner.proofs.texts.mind_all.Goals as goal

pub returns-clause-here : goal.returns-clause-here
returns-clause-here c = λ n has.
    minding-end _ _ _ _ c.in-None.ensures.steps.0 c.loop-number.invariant n
    (ap (is_among n) c.into_iter-number-iterator.ensures.into_iter_gives.0 ∙ sym (among-any n _) ∙ has)
