use Rattle.std.proofs.Common.{◌∙◌}
use Rattle.std.proofs.lemmas.List.{take_all}
use Rattle.ce_base.proofs.Fronts.{copied-more}
use Rattle.ce_base.proofs.texts.Texts.copy.Goals as goal

pub loop-t-preserved : goal.loop-t-preserved
loop-t-preserved c = copied-more c.deref-t-items.result.now c.loop-t.items.items c.push.new.self.items c.loop-t.t-index c.t-item.result _ c.loop-t-test.true
    c.loop-t.invariant c.t-item.is c.in_ok-copy.ensures c.in_ok-push.ensures.items

pub returns : goal.returns
returns c = c.loop-t.invariant ∙ take_all c.loop-t.t-index c.deref-t-items.result.now c.loop-t-test.false ∙ c.deref-t-items.ensures.value ∙ c.self.view_is
