use Rattle.std.proofs.Common.{ap, ◌∙◌, arith}
use Rattle.std.proofs.lemmas.Grind.{common_steps}
use Rattle.node_trees.specs.Orders.{order_of}
use Rattle.node_trees.specs.Trees.{Trees}
use Rattle.ce_algorithms.specs.Page.{Page}
use Rattle.ce_page.proofs.StepLemmas.{others_come}
use Rattle.ce_page.proofs.page.Page.tell_insertion.Goals as goal

pub returns-in_err-tell_inserted-clause-step : goal.returns-in_err-tell_inserted-clause-step
returns-in_err-tell_inserted-clause-step c =
    let order = c.in_ok-walk.ensures.order ∙ ap (λ (p : Page). order_of p.forest c.args.node) c.self.view_is in
    let stopped = rw order at c.in_err-tell_inserted.ensures.step in
    grind (arith, common_steps, stopped)

pub returns-clause-step : goal.returns-clause-step
returns-clause-step c =
    let order = c.in_ok-walk.ensures.order ∙ ap (λ (p : Page). order_of p.forest c.args.node) c.self.view_is in
    others_come _ _ c.args.changes.now _ _ _ _ (rw order at c.in_ok-tell_inserted.ensures.step)
    (ap (λ (f : Trees). order_of f c.args.node) c.tell_inserted.ensures.rest.forest) c.tell_outside.ensures.step
