-- What is copied of texts are texts.
use Rattle.std.proofs.Common.{◌∙◌}
use Rattle.std.proofs.lemmas.List.{take_all}
use Rattle.std.proofs.lemmas.List.Elements.{All-take}
use Rattle.ce_base.specs.Texts.{HasTexts}
use Rattle.ce_base.proofs.Fronts.{copied-more}
use Rattle.ce_base.proofs.entries.Entries.copy.Goals as goal

pub invariant_of-result : goal.invariant_of-result
invariant_of-result c = rw c.loop-e.invariant (All-take HasTexts _ _ (rw c.deref-e-items.ensures.value c.self.invariant))

pub loop-e-preserved : goal.loop-e-preserved
loop-e-preserved c = copied-more c.deref-e-items.result.now c.loop-e.items.items c.push.new.self.items c.loop-e.e-index c.e-item.result _ c.loop-e-test.true
    c.loop-e.invariant c.e-item.is c.in_ok-copy.ensures c.in_ok-push.ensures.items

pub returns : goal.returns
returns c = c.loop-e.invariant ∙ take_all c.loop-e.e-index c.deref-e-items.result.now c.loop-e-test.false ∙ c.deref-e-items.ensures.value ∙ c.self.view_is
