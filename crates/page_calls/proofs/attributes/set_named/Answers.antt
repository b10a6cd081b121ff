use Rattle.std.proofs.Common.{◌≡◌, true, false, refl, sym, ◌∙◌}
use Rattle.element_names.specs.Names.{attr_name}
use Rattle.page_calls.proofs.GivenLaws.{keeps_unrefused}
use Rattle.page_calls.proofs.attributes.set_named.Goals as goal

pub returns-then-not-is_attr_name-clause-step : goal.returns-then-not-is_attr_name-clause-step
returns-then-not-is_attr_name-clause-step c =
    let fits : attr_name c.args.name.now ≡ false = sym c.is_attr_name.ensures ∙ c.if-not-is_attr_name.true in
    rw fits refl

pub returns-clause-step : goal.returns-clause-step
returns-clause-step c =
    let fits : attr_name c.args.name.now ≡ true = sym c.is_attr_name.ensures ∙ c.if-not-is_attr_name.false in
    rw fits (rw c.in_ok-name.ensures at c.set_attribute.ensures.step)

pub returns-clause-refused : goal.returns-clause-refused
returns-clause-refused c = keeps_unrefused _ _ _ c.set_attribute.ensures.refused
