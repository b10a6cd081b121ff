use Rattle.std.proofs.Common.{◌++◌, ◌∙◌, append-nil, ap, sym, subst}
use Rattle.std.specs.List.Sorted.{IsStrictlyIncreasing}
use Rattle.std.proofs.lemmas.Map.Keys.{IsStrictlyIncreasing-from_sorted}
use Rattle.ordered_tables.proofs.node_set.NodeSet.list.Goals as goal

pub returns-clause-rising : goal.returns-clause-rising
returns-clause-rising c =
    subst IsStrictlyIncreasing (sym (sym (append-nil c.loop-n.list) ∙ ap (λ ns. c.loop-n.list ++ ns) (sym c.in-None.ensures.steps.0) ∙ c.loop-n.invariant
    ∙ sym c.self.view_is))
    (IsStrictlyIncreasing-from_sorted c.self.inside.items.keys c.into_iter-n-iterator.ensures.into_iter_gives.4)
