use Rattle.std.proofs.Common.{subst, sym, ◌∙◌}
use Rattle.ce_page.specs.Ends.{Does, work}
use Rattle.ce_page.proofs.StepLemmas.{taken_is}
use Rattle.ce_page.proofs.TellLemmas.{nothing_taken, taking_tells}
use Rattle.ce_page.proofs.page.Page.remove_attribute.Goals as goal

pub returns-clause-step : goal.returns-clause-step
returns-clause-step c =
    let there = sym c.has_attribute.ensures ∙ c.if-not-has_attribute.false in
    let steps = taken_is c.args.self.now c.take_attribute.new.self c.args.fuel.now c.in_ok-old.changes c.in_ok-old.ensures.changes c.args.n c.args.name.now
    c.in_ok-old.old c.in_ok-old.ensures.page c.in_ok-old.ensures.was there in
    subst (Does c.handle_attribute_change.result (work c.handle_attribute_change.new.self c.handle_attribute_change.new.fuel)) (sym steps)
    (rw c.in_ok-kept.ensures at c.handle_attribute_change.ensures.step)

pub returns-clause-told : goal.returns-clause-told
returns-clause-told c = taking_tells _ _ (work c.args.self.now c.args.fuel.now) c.args.n c.args.name.now (returns-clause-step c)

pub returns-then-not-has_attribute-clause-told : goal.returns-then-not-has_attribute-clause-told
returns-then-not-has_attribute-clause-told c =
    nothing_taken c.args.n c.args.name.now (work c.args.self.now c.args.fuel.now) (sym c.has_attribute.ensures ∙ c.if-not-has_attribute.true)
