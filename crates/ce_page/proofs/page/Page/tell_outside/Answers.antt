use Rattle.std.proofs.Common.{◌≡◌, Err, ap, subst, sym, ◌∙◌, rules}
use Rattle.std.specs.Prelude.{not}
use Rattle.node_trees.specs.Orders.{order_of}
use Rattle.node_trees.specs.Paths.{is_among}
use Rattle.node_trees.specs.Trees.{Trees}
use Rattle.ce_algorithms.specs.FormChanges.{tell_others}
use Rattle.ce_algorithms.specs.Page.{Page, Work}
use Rattle.ce_algorithms.specs.Steps.{Outcome}
use Rattle.ce_page.specs.Ends.{Does, work}
use Rattle.ce_page.proofs.StepLemmas.{other_gone, other_stopped}
use Rattle.ce_page.proofs.page.Page.tell_outside.Goals as goal

pub loop-i-preserved : goal.loop-i-preserved
loop-i-preserved c =
    let test = ap not (c.is_inside-is_told.ensures.walked ∙ ap (λ (p : Page). is_among c.at-c.result.now.node (order_of p.forest c.args.node)) c.self.view_is
    ∙ ap (λ (f : Trees). is_among c.at-c.result.now.node (order_of f c.args.node)) c.loop-i.invariant.rest.forest) in
    record {
      step = other_gone _ c.at-c.result.now _ _ _ c.at-c.ensures.rest _ _ test c.in_ok-tell_where.ensures.step ∙ c.loop-i.invariant.step;
      within = search rules;
      rest = search rules;
    }

pub returns-in_err-tell_where-clause-step : goal.returns-in_err-tell_where-clause-step
returns-in_err-tell_where-clause-step c =
    let stop = c.in_err-tell_where.field-0.0 in
    let last = work c.tell_where.new.self c.tell_where.new.fuel in
    let test = ap not (c.is_inside-is_told.ensures.walked ∙ ap (λ (p : Page). is_among c.at-c.result.now.node (order_of p.forest c.args.node)) c.self.view_is
    ∙ ap (λ (f : Trees). is_among c.at-c.result.now.node (order_of f c.args.node)) c.loop-i.invariant.rest.forest) in
    let stopped : c.from_residual.result ≡ Err stop = search rules in
    let here = other_stopped _ c.at-c.result.now _ _ _ c.at-c.ensures.rest _ stop last test c.in_err-tell_where.ensures.step in
    subst (λ r. Does r last (tell_others c.args.changes.now (order_of c.args.self.now.forest c.args.node) (work c.args.self.now c.args.fuel.now))) (sym stopped)
    (subst (λ (o : Outcome Work (Unit {0})). Does {A = Unit {0}} (Err stop) last o) c.loop-i.invariant.step here)
