use Rattle.std.proofs.Common.{Ok, refl, subst, sym, ◌∙◌}
use Rattle.node_trees.specs.Orders.{order_of}
use Rattle.node_trees.specs.Trees.{Trees}
use Rattle.ce_page.specs.Ends.{work}
use Rattle.ce_page.specs.Loose.{IsLoosed}
use Rattle.ce_page.proofs.StepLemmas.{on_ok, remove_is}
use Rattle.ce_page.proofs.TellLemmas.{removal_tells}
use Rattle.ce_page.proofs.Unheard.{removal_unheard}
use Rattle.ce_page.proofs.page.Page.remove_node.Goals as goal

pub returns-clause-step : goal.returns-clause-step
returns-clause-step c =
    let was = c.is_parent_connected-was.ensures in
    let steps = remove_is c.args.self.now c.cut.new.self c.args.fuel.now c.in_ok-changes.changes c.in_ok-changes.ensures.changes c.args.node _ _
    c.in_ok-changes.ensures.page refl was in
    rw steps c.tell_removal.ensures.step

pub returns-clause-loose : goal.returns-clause-loose
returns-clause-loose c =
    on_ok c.tell_removal.result (subst (λ (f : Trees). IsLoosed c.args.self.now.forest f c.args.node)
    (sym c.tell_removal.ensures.rest.forest) c.in_ok-changes.ensures.loose)

pub returns-clause-told : goal.returns-clause-told
returns-clause-told c = removal_tells _ _ (work c.args.self.now c.args.fuel.now) c.args.node c.in_ok-changes.ensures.tidy (returns-clause-step c)

pub returns-then-is_unheard-clause-step : goal.returns-then-is_unheard-clause-step
returns-then-is_unheard-clause-step c =
    let now = c.cut.new.self in
    let cs = c.in_ok-changes.changes in
    let order = order_of now.forest c.args.node in
    let was = c.is_parent_connected-was.ensures in
    let steps = remove_is c.args.self.now now c.args.fuel.now cs c.in_ok-changes.ensures.changes c.args.node _ order c.in_ok-changes.ensures.page refl was in
    sym (steps ∙ removal_unheard now c.args.fuel.now cs _ order order (c.is_unheard.ensures.changes c.if-is_unheard.true)
    (c.is_unheard.ensures.apart c.if-is_unheard.true))

pub returns-then-is_unheard-clause-told : goal.returns-then-is_unheard-clause-told
returns-then-is_unheard-clause-told c =
    removal_tells (Ok tt) _ (work c.args.self.now c.args.fuel.now) c.args.node c.in_ok-changes.ensures.tidy (returns-then-is_unheard-clause-step c)
