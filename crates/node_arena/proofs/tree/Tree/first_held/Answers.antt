use Rattle.std.proofs.Common.{[], refl, sym, ◌∙◌}
use Rattle.ordered_tables.proofs.NodeSetMembers.{among-any}
use Rattle.node_arena.specs.Seen.{seen_fact}
use Rattle.node_arena.proofs.Calls.{covers_all}
use Rattle.node_arena.proofs.LookUp.{look-start, look-other, look-found, look-end}
use Rattle.node_arena.proofs.tree.Tree.first_held.Goals as goal

pub returns-in_default-clause-found : goal.returns-in_default-clause-found
returns-in_default-clause-found c =
    look-end _ _ _ _ [] refl (look-start _ _ _ [] [] refl
    (λ m has. c.in_default.ensures.held m ∙ covers_all _ _ _ _ (seen_fact _ _ _ c.self.view_is) c.self.invariant.0 m has))

pub loop-holder-init : goal.loop-holder-init
loop-holder-init c =
    look-start _ _ _ _ _ c.into_iter-holder-iterator.ensures.into_iter_gives.0
    (λ m has. sym (among-any m _) ∙ c.in-Some.ensures.held m ∙ covers_all _ _ _ _ (seen_fact _ _ _ c.self.view_is) c.self.invariant.0 m has)

pub loop-holder-preserved-then-is_holder : goal.loop-holder-preserved-then-is_holder
loop-holder-preserved-then-is_holder c =
    look-found _ _ _ _ _ _ _ c.in-Some-holder.ensures.steps c.loop-holder.invariant (sym c.in_ok-is_holder.ensures.is ∙ c.if-is_holder.true)
    (c.in_ok-is_holder.ensures.node c.if-is_holder.true) (sym c.is_some.ensures ∙ c.if-is_some.false)

pub loop-holder-preserved : goal.loop-holder-preserved
loop-holder-preserved c = look-other _ _ _ _ _ _ _ c.in-Some-holder.ensures.steps c.loop-holder.invariant
    (sym c.in_ok-is_holder.ensures.is ∙ c.if-is_holder.false)

pub returns-clause-found : goal.returns-clause-found
returns-clause-found c = look-end _ _ _ _ _ c.in-None.ensures.steps.0 c.loop-holder.invariant

pub returns-clause-node : goal.returns-clause-node
returns-clause-node c = c.loop-holder.invariant.node
