use Rattle.std.proofs.Common.{refl}
use Rattle.ce_page.proofs.WholeLemmas.{lasting_made, whole_kept, whole_new}
use Rattle.ce_page.proofs.page.Page.make_element.Goals as goal

pub invariant_of-self-in_err-push : goal.invariant_of-self-in_err-push
invariant_of-self-in_err-push c =
    rw c.in_err-push.ensures.items
    (whole_kept _ _ c.make_element.ensures.kinds
    (lasting_made _ c.self.inside.elements.items c.self.inside.registry _ _ _ c.make_element.ensures.tidy refl c.in_ok-n.ensures.made) c.self.invariant)

pub invariant_of-self-2 : goal.invariant_of-self-2
invariant_of-self-2 c =
    rw (c.in_ok-push.ensures.items, c.uncustomized.ensures)
    (whole_new _ _ c.make_element.ensures.kinds c.in_ok-n.ensures.size
    (lasting_made _ c.self.inside.elements.items c.self.inside.registry _ _ _ c.make_element.ensures.tidy refl c.in_ok-n.ensures.made) c.self.invariant)
