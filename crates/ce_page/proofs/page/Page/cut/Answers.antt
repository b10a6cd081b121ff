use Rattle.std.proofs.Common.{refl, subst, sym}
use Rattle.ce_algorithms.specs.Forms.{forms_in}
use Rattle.ce_algorithms.specs.Page.{Page}
use Rattle.ce_page.specs.Loose.{IsLoosed}
use Rattle.ce_page.proofs.ElementLemmas.{sound_kept}
use Rattle.ce_page.proofs.LooseLemmas.{loosed}
use Rattle.ce_page.proofs.SettleLemmas.{removed}
use Rattle.ce_page.proofs.WholeLemmas.{whole_begun}
use Rattle.ce_page.proofs.page.Page.cut.Goals as goal

pub returns-clause-loose : goal.returns-clause-loose
returns-clause-loose c =
    subst (λ (p : Page). IsLoosed p.forest c.remove.new.self c.args.node) c.self.view_is
    (loosed c.self.inside.tree c.remove.new.self c.args.node c.remove.ensures.free c.remove.ensures.may c.remove.ensures.may_in_place)

pub invariant_of-self : goal.invariant_of-self
invariant_of-self c = whole_begun _ _ _ _ c.remove.ensures.kinds refl c.self.invariant

pub invariant_of-self-in-Some : goal.invariant_of-self-in-Some
invariant_of-self-in-Some c =
    let touched = removed _ _ c.self.view_is c.args.node c.in-Some.parent c.remove.new.self c.requires.node
    (sym c.in-Some.ensures.parent) c.remove.ensures.tidy c.remove.ensures.size c.remove.ensures.cut in
    let stood = c.self.invariant.owners c.if-not-self.false in
    record {
      sound = sound_kept _ _ c.remove.ensures.kinds c.self.invariant.sound;
      given = λ e. c.self.invariant.given c.if-not-self.false;
      owners = λ e. c.in_ok-changes-in-Some.ensures.stands (forms_in c.self.inside.elements.items c.self.inside.registry c.self.inside.tree) stood touched;
    }
