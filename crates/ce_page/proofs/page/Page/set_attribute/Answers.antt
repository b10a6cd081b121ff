use Rattle.std.proofs.Common.{subst, sym, ◌∙◌}
use Rattle.ce_page.specs.Ends.{Does, work}
use Rattle.ce_page.proofs.StepLemmas.{on_ok, set_is}
use Rattle.ce_page.proofs.TellLemmas.{setting_tells}
use Rattle.ce_page.proofs.page.Page.set_attribute.Goals as goal

pub returns-clause-step : goal.returns-clause-step
returns-clause-step c =
    let steps = set_is c.args.self.now c.put_attribute.new.self c.args.fuel.now c.in_ok-old.changes c.in_ok-old.ensures.changes c.args.n c.args.name
    c.args.value c.in_ok-old.old c.in_ok-old.ensures.page c.in_ok-old.ensures.was in
    subst (Does c.handle_attribute_change.result (work c.handle_attribute_change.new.self c.handle_attribute_change.new.fuel))
    (sym steps) c.handle_attribute_change.ensures.step

pub returns-clause-told : goal.returns-clause-told
returns-clause-told c = setting_tells _ _ (work c.args.self.now c.args.fuel.now) c.args.n c.args.name c.args.value (returns-clause-step c)

pub returns-clause-settled : goal.returns-clause-settled
returns-clause-settled c = on_ok c.handle_attribute_change.result (c.handle_attribute_change.ensures.rest.settled ∙ c.in_ok-old.ensures.settled)
