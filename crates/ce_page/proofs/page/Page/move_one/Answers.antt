use Rattle.ce_page.proofs.WholeLemmas.{lasting_adopted, whole_kept}
use Rattle.ce_page.proofs.page.Page.move_one.Goals as goal

pub invariant_of-self : goal.invariant_of-self
invariant_of-self c = whole_kept _ _ c.set_document.ensures.kinds
    (lasting_adopted _ c.self.inside.elements.items c.self.inside.registry _ _ c.args.n c.args.document c.set_document.ensures.tidy
    c.set_document.ensures.document) c.self.invariant
