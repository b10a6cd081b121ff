use Rattle.std.proofs.Common.{refl}
use Rattle.ce_algorithms.specs.Forms.{forms_in}
use Rattle.ce_page.proofs.ElementLemmas.{sound_kept}
use Rattle.ce_page.proofs.SettleLemmas.{attribute_taken}
use Rattle.ce_page.proofs.WholeLemmas.{whole_begun}
use Rattle.ce_page.proofs.page.Page.take_attribute.Goals as goal

pub invariant_of-self : goal.invariant_of-self
invariant_of-self c = whole_begun _ _ _ _ c.del_attr-old.ensures.kinds refl c.self.invariant

pub invariant_of-self-2 : goal.invariant_of-self-2
invariant_of-self-2 c =
    let touched = attribute_taken _ _ c.self.view_is c.args.n c.args.name.now c.del_attr-old.new.self c.requires.node c.requires.element
    c.del_attr-old.ensures.tidy c.del_attr-old.ensures.size c.del_attr-old.ensures.left in
    record {
      sound = sound_kept _ _ c.del_attr-old.ensures.kinds c.self.invariant.sound;
      given = λ e. c.self.invariant.given c.if-not-self.false;
      owners = λ e. c.in_ok-changes.ensures.stands (forms_in c.self.inside.elements.items c.self.inside.registry c.self.inside.tree)
          (c.self.invariant.owners c.if-not-self.false) touched;
    }

pub returns-clause-changes : goal.returns-clause-changes
returns-clause-changes c =
    let touched = attribute_taken _ _ c.self.view_is c.args.n c.args.name.now c.del_attr-old.new.self c.requires.node c.requires.element
    c.del_attr-old.ensures.tidy c.del_attr-old.ensures.size c.del_attr-old.ensures.left in
    rw (← c.self.view_is) (c.in_ok-changes.ensures.changes (forms_in c.self.inside.elements.items c.self.inside.registry c.self.inside.tree)
    (c.self.invariant.owners c.if-not-self.false) touched)
