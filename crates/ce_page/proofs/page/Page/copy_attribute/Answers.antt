use Rattle.ce_algorithms.specs.Attributes.{set_attribute}
use Rattle.ce_page.proofs.StepLemmas.{spending}
use Rattle.ce_page.proofs.page.Page.copy_attribute.Goals as goal

pub returns-clause-step : goal.returns-clause-step
returns-clause-step c =
    let spent = rw c.if-not-spend.false at c.spend.ensures in
    spending _ _ _ _ _ _ (set_attribute c.args.n c.args.attribute.now.0 c.args.attribute.now.1) spent
    (rw (c.in_ok-name.ensures.name, c.in_ok-name.ensures.value) at c.set_attribute.ensures.step)
