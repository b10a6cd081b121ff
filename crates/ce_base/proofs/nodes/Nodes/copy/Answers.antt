use Rattle.std.proofs.Common.{refl, ◌∙◌}
use Rattle.std.proofs.lemmas.List.{take_all}
use Rattle.ce_base.proofs.Fronts.{copied-more}
use Rattle.ce_base.proofs.nodes.Nodes.copy.Goals as goal

pub loop-n-preserved : goal.loop-n-preserved
loop-n-preserved c = copied-more c.deref-n-items.result.now c.loop-n.items.items c.push.new.self.items c.loop-n.n-index c.n-item.result _ c.loop-n-test.true
    c.loop-n.invariant c.n-item.is refl c.in_ok-push.ensures.items

pub returns : goal.returns
returns c = c.loop-n.invariant ∙ take_all c.loop-n.n-index c.deref-n-items.result.now c.loop-n-test.false ∙ c.deref-n-items.ensures.value ∙ c.self.view_is
